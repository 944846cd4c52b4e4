pub mod OtherTexts
pub mod Headline
pub mod Endings
pub mod Replay
