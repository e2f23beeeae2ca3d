mod FrameFacts
mod PlaceFacts
mod ReadFacts
