-- What only the code's own steps and their proofs speak of.
pub mod Scan
pub mod OpeningView
pub mod Build
pub mod Standing
pub mod Tested
pub mod Printed
