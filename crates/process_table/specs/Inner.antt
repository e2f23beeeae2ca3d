pub mod Finding
pub mod Joined
pub mod Words
