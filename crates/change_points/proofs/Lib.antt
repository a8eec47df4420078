pub mod Places
pub mod Telling
pub mod Alike
pub mod Changing
pub mod Knowing
pub mod Answered
