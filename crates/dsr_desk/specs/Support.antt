-- What `==` decides for contents, signers, statements and signatures. These serve `==`, and tests that definitions
-- branch on.
pub mod ContentEquality
pub mod SharedContent
pub mod SignatureEquality
pub mod SignersEquality
pub mod StatementEquality
