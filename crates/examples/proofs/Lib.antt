pub mod ShownSets
pub mod ShownTranscripts
