pub mod OrderLaws
pub mod EntryLaws
