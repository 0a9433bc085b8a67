pub mod Agreement
pub mod Differences
pub mod Held
pub mod Meanings
pub mod Names
pub mod Numbers
pub mod Texts
