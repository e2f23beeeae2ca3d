mod Examples
pub mod MeetFacts
pub mod LeadFacts
pub mod ChainFacts
pub mod PeelFacts
pub mod RingFacts
pub mod TellFacts
pub mod ComingFacts
pub mod CircleFacts
pub mod NumberFacts
pub mod WalkFacts
pub mod BlockFacts
pub mod ReportFacts
