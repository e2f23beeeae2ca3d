mod HolderLoads
mod Redacting
mod WaitFacts
mod WaitLoads
