pub mod LayersKeep
pub mod Recode
