pub mod Listed
pub mod Digests
pub mod Places
pub mod Sieves
pub mod Chains
