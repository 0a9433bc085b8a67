pub mod Written
pub mod OneReport
pub mod OneMore
