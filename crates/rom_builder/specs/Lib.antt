pub mod SortedOnce
pub mod MadeImage
pub mod LaidMadeImage
pub mod RomParts
