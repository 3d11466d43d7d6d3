mod WordLemmas
pub mod OperandLemmas
pub mod AppLemmas
pub mod RightLemmas
mod ExampleLemmas
mod NumberLemmas
