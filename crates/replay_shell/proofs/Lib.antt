pub mod ReplayLemmas
pub mod SummaryLemmas
pub mod WordLemmas
