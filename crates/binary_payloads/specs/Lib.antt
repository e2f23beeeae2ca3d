pub mod Cover
pub mod Payload
pub mod ReadingPayloads
