pub mod HintLemmas
pub mod OutputLemmas
mod DigitLemmas
mod TextLemmas
mod EscapeLemmas
