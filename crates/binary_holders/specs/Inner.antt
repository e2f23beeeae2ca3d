-- What only private functions cite: how the lines of a heap
-- are distinguished, and how what it refers to is counted.
pub mod Finding
pub mod HeapSinks
pub mod Lines
pub mod Places
pub mod Rows
pub mod Counting
