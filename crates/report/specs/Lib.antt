pub mod Told
pub mod Lines
pub mod Reports
pub mod Texts
pub mod Refused
pub mod InOrder
