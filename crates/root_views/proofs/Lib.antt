mod EachFacts
mod HearFacts
mod KeepFacts
pub mod KindFacts
pub mod LineFacts
pub mod MailFacts
pub mod RootFacts
mod RunFacts
mod SomeFacts
pub mod SplitFacts
