pub mod Endings
pub mod Files
