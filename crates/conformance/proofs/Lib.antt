pub mod Answering
pub mod Holding
pub mod Texts
