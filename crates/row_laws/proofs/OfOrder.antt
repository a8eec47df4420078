pub mod Sorting
pub mod Orders
pub mod OrderedRows
