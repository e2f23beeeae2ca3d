pub mod Inner
pub mod Loading
pub mod Payloads
pub mod Previews
pub mod Ranges
pub mod StoredBinaries
pub mod Wholes
