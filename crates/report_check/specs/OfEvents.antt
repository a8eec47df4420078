pub mod Blanks
pub mod Cursors
pub mod Lines
pub mod Told
