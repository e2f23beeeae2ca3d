pub mod Fields
pub mod Laws
pub mod Lines
pub mod Shown
