-- How names are stored in their fields, what `==` decides for requests, and why the tokens of requests can be joined. These
-- serve `impl Model`, `impl Token`, `==`, and tests that definitions branch on.
pub mod Name
pub mod RequestEquality
pub mod RequestToken
pub mod Texts
