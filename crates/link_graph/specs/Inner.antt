pub mod Cutting
pub mod Layouts
pub mod Numbers
pub mod Opening
pub mod Orders
pub mod Searching
pub mod Sets
pub mod Spans
