pub mod LastReply
