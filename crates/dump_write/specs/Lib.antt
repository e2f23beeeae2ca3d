pub mod Inner
pub mod Made
pub mod Written
