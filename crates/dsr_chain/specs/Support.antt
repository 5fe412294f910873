-- What `==` decides for signed requests and lists of them, and how shared values and signatures are stored in their fields.
-- These serve `==`, `impl Model`, and private contracts.
pub mod BatchEquality
pub mod Signatures
pub mod SignedLists
pub mod SignedRequestEquality
