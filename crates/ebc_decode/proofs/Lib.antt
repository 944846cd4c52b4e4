pub mod IndexLemmas
pub mod KeptBits
pub mod SpellingLemmas
