mod Audits
mod Overviews
mod TriageLoads
