pub mod PairTables
pub mod TrailerFacts
pub mod PairRuns
