-- What only private functions cite.
pub mod Asking
pub mod Hearing
pub mod Memories
pub mod Pools
pub mod Reading
pub mod Seen
