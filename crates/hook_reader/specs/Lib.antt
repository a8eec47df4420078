pub mod Marks
pub mod Seats
pub mod Known
pub mod Told
pub mod KeptHeads
