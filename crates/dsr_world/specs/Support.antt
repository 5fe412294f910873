-- How the parts of a world represent it, and what `==` of two ends of events decides. No public contract cites this: it serves `impl
-- Model` and private contracts.
pub mod Boxes
pub mod EntriesFields
pub mod PlayingFields
pub mod RunEndEquality
pub mod StageFields
pub mod StepsFields
pub mod WorldFields
