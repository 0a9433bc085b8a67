-- The proofs that the sets keep the laws of a character set; no definition of a set stands here.
pub mod Search
pub mod Columns
pub mod Iso6937Table
pub mod Iso6937
pub mod SingleByte
pub mod Utf8
