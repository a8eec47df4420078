pub mod Rooms
pub mod Tells
pub mod Raises
pub mod Moves
