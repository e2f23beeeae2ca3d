pub mod Cut
pub mod Groups
pub mod Inner
pub mod Numbers
pub mod Sorting
pub mod Sums
