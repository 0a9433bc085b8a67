pub mod FrontLemmas
pub mod Spelling
pub mod Places
