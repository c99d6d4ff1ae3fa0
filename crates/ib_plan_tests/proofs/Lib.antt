pub mod ReadLaws
pub mod Agreeing
