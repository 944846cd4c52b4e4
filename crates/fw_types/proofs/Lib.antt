pub mod LayoutLemmas
pub mod LittleEndian
