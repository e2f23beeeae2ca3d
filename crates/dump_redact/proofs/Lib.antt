mod Examples
pub mod Alike
pub mod Copies
pub mod Leads
pub mod Offsets
pub mod Places
pub mod PlainLines
pub mod Sections
pub mod Stretches
pub mod Zeros
