pub mod Memo
pub mod Mtr
pub mod Loads
pub mod Commits
pub mod Lending
pub mod NowaitCommits
