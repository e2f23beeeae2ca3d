-- What only private functions cite: how items are counted.
pub mod Counting
pub mod Numbers
