mod Points
mod Reading
mod Visits
mod Heads
mod Looks
mod Acts
mod Copies
