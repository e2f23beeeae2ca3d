mod HearFacts
pub mod Joining
pub mod Keeping
pub mod Opening
pub mod Passing
pub mod Pushing
pub mod Spots
pub mod Walking
