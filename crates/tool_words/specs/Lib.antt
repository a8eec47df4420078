pub mod Command
pub mod Ends
pub mod Messages
pub mod Requests
pub mod Reasons
