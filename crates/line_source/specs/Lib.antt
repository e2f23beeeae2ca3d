pub mod Feeding
pub mod Growth
pub mod Inner
pub mod Laws
pub mod Receiver
pub mod Scan
pub mod Streams
