pub mod FewColumns
pub mod WorkedCases
