-- What private readers of plays guarantee.
pub mod PlayParts
