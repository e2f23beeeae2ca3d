pub mod Inner
pub mod Kinds
pub mod Placed
pub mod Roots
pub mod Sections
pub mod Seen
pub mod Shown
