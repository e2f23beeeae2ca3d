-- What only private functions cite: how states are counted.
pub mod States
