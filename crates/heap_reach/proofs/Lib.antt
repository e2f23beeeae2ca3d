pub mod Missed
pub mod Once
pub mod Ordered
pub mod Rooted
