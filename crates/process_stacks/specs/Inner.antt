-- What only private functions cite: how the lines of a stack are heard, and how stacks are read.
pub mod Hearing
pub mod Reading
