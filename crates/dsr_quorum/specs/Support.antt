-- What `==` decides for replies, for a test that definitions branch on; and how a tally counts votes, for private
-- contracts.
pub mod ReplyEquality
pub mod Tally
