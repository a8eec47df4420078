-- Lemmas on lists, on the rows around a table and a mask, and then one file for each kind of change.
pub mod Lists
pub mod Filters
pub mod Hooks
pub mod Others
pub mod Together
pub mod Whole
pub mod Put
pub mod MaskPut
pub mod TablePut
pub mod Swept
pub mod Sweeping
pub mod TableTaken
pub mod FilterTaken
pub mod Twice
pub mod Moved
pub mod MovedWhole
