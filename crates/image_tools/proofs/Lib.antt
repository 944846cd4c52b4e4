pub mod TextLemmas
pub mod WordLemmas
pub mod FileLemmas
pub mod EntryLemmas
pub mod StatusLemmas
pub mod ReadBackLemmas
