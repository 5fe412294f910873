mod StandingLemmas
mod StepLemmas
