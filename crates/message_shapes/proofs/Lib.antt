mod HeardFacts
mod HearingFacts
mod NumberedFacts
mod OriginFacts
mod ShownFacts
