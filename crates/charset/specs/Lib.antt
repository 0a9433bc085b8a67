pub mod Strings
pub mod Padding
pub mod Meaning
pub mod Answers
pub mod Decoding
pub mod Sets
pub mod Laws
