-- What `==` of picks decides.
pub mod PickEquality
