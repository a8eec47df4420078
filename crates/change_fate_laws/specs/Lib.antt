pub mod Changes
pub mod Jobs
