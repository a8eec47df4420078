mod Apart
mod Calls
mod Covering
mod Cuts
mod Indexed
mod LastOf
mod Linked
mod Seeking
pub mod Sieving
mod Slots
mod Walking
