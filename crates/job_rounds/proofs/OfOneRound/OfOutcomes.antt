pub mod Giving
pub mod Drew
pub mod Rising
pub mod Back
pub mod Meets
