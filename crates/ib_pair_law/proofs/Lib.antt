pub mod OpeningLaws
pub mod ChangedLaws
pub mod PushLaws
pub mod ClockLaws
