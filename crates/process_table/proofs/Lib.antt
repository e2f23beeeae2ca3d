pub mod Building
mod Examples
pub mod Firsts
pub mod Hearing
pub mod Joining
pub mod Placing
pub mod Positions
pub mod Ranking
pub mod Rising
pub mod Splitting
pub mod Words
