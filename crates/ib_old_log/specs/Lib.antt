pub mod OldHeads
pub mod OldEntries
pub mod OldGrammar
