pub mod Hearing
pub mod Joining
pub mod Keeping
pub mod Walking
