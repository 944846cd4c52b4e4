pub mod ToolTexts
pub mod Tools
pub mod Steps
pub mod ImageListing
