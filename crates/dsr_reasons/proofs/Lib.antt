mod DigitLemmas
mod WriterLemmas
