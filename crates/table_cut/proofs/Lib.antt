mod WeightLemmas
pub mod Bounds
pub mod EntrySizeLemmas
mod CutSteps
mod Unlimited
mod SeenLemmas
pub mod CutRows
pub mod Fronts
mod FillingLemmas
mod RowsTaken
pub mod RowLemmas
pub mod SpanWeights
pub mod PieceLemmas
pub mod ColumnLemmas
pub mod PartLemmas
pub mod RunSteps
pub mod RoomLemmas
pub mod SharedLemmas
pub mod FitLemmas
