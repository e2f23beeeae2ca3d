mod Examples
mod NumberFacts
mod OrderExamples
mod SortFacts
mod TallyFacts
