mod WordLemmas
mod ReadingLemmas
mod WishLemmas
