pub mod FilterWords
