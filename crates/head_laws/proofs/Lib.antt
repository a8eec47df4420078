pub mod HeadRows
pub mod ListedHeads
pub mod OnePlace
pub mod MaskRows
