pub mod EntryFacts
pub mod Fitting
pub mod Loads
pub mod MailPlaces
