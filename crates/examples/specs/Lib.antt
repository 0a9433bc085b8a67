pub mod Odd
pub mod Laws
pub mod SetsAndLayers
pub mod Transcripts
