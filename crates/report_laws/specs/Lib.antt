pub mod Begun
pub mod Stands
pub mod OfWholePaths
pub mod OfNextLines
pub mod OfLineCuts
