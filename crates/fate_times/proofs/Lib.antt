pub mod Stayed
pub mod OneByOne
pub mod Fated
pub mod Seen
pub mod Told
