pub mod Answering
pub mod Beginnings
pub mod Causes
pub mod Faults
pub mod FirstLine
pub mod Grown
pub mod Rising
pub mod ShortLines
