pub mod Blockers
pub mod Circles
pub mod Coming
pub mod Inner
pub mod Laws
pub mod Report
pub mod Steps
pub mod Waiters
