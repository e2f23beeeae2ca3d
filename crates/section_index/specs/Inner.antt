-- What only private functions cite.
pub mod Beginning
pub mod Reading
pub mod Receiver
pub mod Scanning
