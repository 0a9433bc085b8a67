pub mod LayerReads
pub mod Wording
pub mod RecodedReads
pub mod RecodedWrites
pub mod MoreWording
pub mod Listed
pub mod Risen
pub mod Required
mod Faults
mod Firsts
mod Once
mod Unwritten
