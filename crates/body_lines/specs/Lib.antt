pub mod Hearing
pub mod Inner
pub mod Laws
pub mod Lines
pub mod WholeLines
