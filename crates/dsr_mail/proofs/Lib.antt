pub mod Asking
pub mod Clearing
pub mod Closing
pub mod Planting
pub mod Reposting
pub mod Responding
pub mod Seating
pub mod ServingLemmas
