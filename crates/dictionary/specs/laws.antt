pub mod InEffect
