pub mod Listing
mod Examples
