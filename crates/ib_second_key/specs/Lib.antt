pub mod SecondKeys
pub mod SecondChanges
