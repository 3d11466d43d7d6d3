mod CellLemmas
mod DistinctEntries
mod HoldingLemmas
