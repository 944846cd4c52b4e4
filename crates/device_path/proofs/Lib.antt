pub mod PathLemmas
pub mod TextLemmas
pub mod NodesLemmas
pub mod GrowingText
pub mod RootPath
