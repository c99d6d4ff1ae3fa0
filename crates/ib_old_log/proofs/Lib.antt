pub mod OldHeadLaws
pub mod OldEntryLaws
pub mod OldReadLaws
mod OldSpelled
