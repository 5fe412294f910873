pub mod BoxLemmas
mod FewLemmas
pub mod JoinedLemmas
pub mod Marks
pub mod MemberLemmas
pub mod Numerals
pub mod Outside
pub mod Padding
pub mod Pigeonhole
pub mod ReadsLemmas
pub mod TwoParts
