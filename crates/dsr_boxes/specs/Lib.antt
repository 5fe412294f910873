pub mod Box
pub mod Moment
pub mod Moves
pub mod Pass
pub mod Place
pub mod Play
pub mod Rule
pub mod View
