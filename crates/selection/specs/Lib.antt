pub mod LinePrinter
pub mod SelectionBuilder
pub mod laws
pub mod inner
