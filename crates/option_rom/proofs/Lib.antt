pub mod RomLemmas
pub mod LayoutLemmas
pub mod RangesLemmas
