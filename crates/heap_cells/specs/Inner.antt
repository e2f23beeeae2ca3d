pub mod Bodies
pub mod Faults
pub mod Gathering
pub mod Parts
pub mod Records
pub mod Spellings
pub mod Texts
pub mod Settling
