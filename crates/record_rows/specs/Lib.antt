pub mod Rows
pub mod Numbers
pub mod Inside
pub mod Asking
pub mod Index
pub mod IndexInside
pub mod ShownPlaces
pub mod RowsKept
