mod FaultLaws
mod UpgradeLaws
pub mod SamePlans
pub mod OneOldFault
