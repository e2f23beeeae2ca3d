pub mod HearFacts
pub mod LoadFacts
pub mod ResolveFacts
pub mod ShownFacts
