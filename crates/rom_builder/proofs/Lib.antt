pub mod SortedOnceLemmas
pub mod PageLemmas
pub mod SizeLemmas
pub mod HeaderLemmas
pub mod BlockLemmas
pub mod AcceptanceLemmas
pub mod LaidImageLemmas
pub mod CodeLemmas
