pub mod Holders
pub mod Triage
