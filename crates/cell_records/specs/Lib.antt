pub mod Firsts
pub mod Inner
pub mod Numbers
pub mod Order
pub mod Resolving
