pub mod OneMore
pub mod BuiltMasks
pub mod Moved
pub mod BuildSteps
pub mod MoveSteps
pub mod Done
