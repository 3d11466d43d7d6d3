-- Definitions for the steps of the code and their proofs only.
pub mod SchemaTotals
pub mod Alike
