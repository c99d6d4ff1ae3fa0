pub mod CallLaws
pub mod AfterLaws
pub mod CallEnds
pub mod CommitLaws
pub mod OptionLaws
pub mod LeafStays
pub mod LeafCommits
mod LeafCalls
mod LeafEnds
pub mod LeafLaws
