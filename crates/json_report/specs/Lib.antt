pub mod Faults
pub mod Inner
pub mod Laws
pub mod Trees
