mod OrderLemmas
mod SameLemmas
