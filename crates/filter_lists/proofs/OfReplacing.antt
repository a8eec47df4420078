-- Looking at a replacement, and doing it.
pub mod Seeking
pub mod Found
pub mod Looking
pub mod Keys
pub mod Going
pub mod Ready
pub mod Fitting
pub mod Counted
pub mod Turned
pub mod Exchanged
pub mod AtOnce
