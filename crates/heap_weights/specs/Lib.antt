pub mod Holders
pub mod Inner
pub mod Labels
pub mod LastLeads
pub mod Laws
pub mod Parts
pub mod Shares
