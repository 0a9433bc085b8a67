pub mod Windows
pub mod Leading
pub mod Turns
pub mod Once
pub mod PlainBytes
pub mod CodingsMet
