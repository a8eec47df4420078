pub mod SeenMost
pub mod Logged
pub mod RoundMore
