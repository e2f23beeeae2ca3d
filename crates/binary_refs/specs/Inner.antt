pub mod Covers
pub mod Kinds
pub mod Leads
pub mod Numbers
pub mod Places
pub mod Shown
pub mod Wholes
