pub mod Counts
pub mod EventTexts
pub mod PacketTexts
pub mod PacketTails
pub mod Reports
pub mod Kept
pub mod Pages
pub mod Passed
