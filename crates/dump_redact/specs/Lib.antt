pub mod Bodies
pub mod Inner
pub mod Laws
pub mod Payloads
pub mod Redacted
pub mod Refusals
