pub mod Clean
mod HeaderLemmas
mod ItemsLemmas
pub mod LinesLemmas
