pub mod Aside
pub mod Desks
pub mod Marked
pub mod Rooms
