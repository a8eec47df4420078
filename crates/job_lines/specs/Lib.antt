pub mod Jobs
pub mod Files
pub mod States
pub mod Steps
