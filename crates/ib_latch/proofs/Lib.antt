pub mod Claims
pub mod Takes
pub mod Stills
pub mod RefusalLaws
