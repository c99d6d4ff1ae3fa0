pub mod Pools
pub mod CheckLaws
pub mod ReplayLaws
pub mod ScanLaws
pub mod SpaceLaws
pub mod WordLaws
mod SessionBox
mod SpaceBox
mod Sent
