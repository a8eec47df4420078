pub mod EtherNames
pub mod Forms
