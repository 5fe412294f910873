pub mod PlayLemmas
mod PlayLineLemmas
mod PlayPartLemmas
