pub mod LongWords
mod RangeFacts
