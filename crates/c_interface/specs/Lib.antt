pub mod Records
pub mod FormTranscripts
pub mod Refusals
pub mod Calls
