pub mod SectionLemmas
pub mod AtMarksLaws
