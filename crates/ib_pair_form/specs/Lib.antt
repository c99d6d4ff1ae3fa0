pub mod Answers
pub mod PairCalls
pub mod PairOutput
