-- What `==` on tasks decides. It is used for `==` only.
pub mod TaskEquality
