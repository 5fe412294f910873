-- How the fields of drafts and of known signatures represent them, what is hashed for a signature, and why texts of drafts can
-- be joined. These serve `impl Model`, `impl Hash`, and private contracts.
pub mod AskText
pub mod Carried
pub mod ChainParts
pub mod Described
pub mod EnvelopeParts
pub mod Links
pub mod Noted
pub mod PlaceEquality
pub mod PlaceHash
pub mod PlainSaid
pub mod Said
pub mod SignatureEquality
pub mod SignatureHash
pub mod SpelledText
