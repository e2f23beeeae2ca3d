pub mod Bounds
pub mod ReadingBack
