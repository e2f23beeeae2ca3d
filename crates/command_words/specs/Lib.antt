pub mod Budgets
pub mod Command
pub mod Ranges
