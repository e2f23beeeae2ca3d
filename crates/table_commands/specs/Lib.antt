pub mod Findings
pub mod Inner
pub mod Rows
pub mod Triage
