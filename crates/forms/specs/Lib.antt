pub mod FormSets
pub mod PageControls
pub mod Chosen
pub mod Laws
pub mod Names
