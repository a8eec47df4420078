pub mod Pasts
pub mod Names
pub mod Serials
pub mod Next
