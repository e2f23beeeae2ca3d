pub mod Inner
pub mod Links
pub mod Refusals
pub mod Reports
pub mod Tables
