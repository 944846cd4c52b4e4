pub mod NumberLemmas
pub mod BlockLemmas
pub mod SectionLemmas
pub mod RuleLemmas
pub mod SectionPlaceLemmas
pub mod ImageByteLemmas
pub mod LaidSizeLemmas
