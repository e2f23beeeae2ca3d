pub mod Answers
pub mod Inner
pub mod Opening
