mod BegunLemmas
pub mod FaultLemmas
mod JudgedLemmas
mod NextLemmas
mod StopLemmas
mod WantedLemmas
