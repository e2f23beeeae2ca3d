-- What the walk keeps, and what it stands for.
pub mod Coming
pub mod Entries
pub mod Children
pub mod Openings
pub mod Rest
pub mod Steps
pub mod Written
