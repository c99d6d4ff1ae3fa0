mod ChangeLaws
mod ContendedLaws
mod LogEndLaws
pub mod LookupLaws
mod EndLaws
mod LeafTries
mod AgreeLaws
mod GrowLaws
pub mod HeldLaws
pub mod PathHeld
pub mod SiblingsHeld
pub mod ClaimedLaws
mod BeginLaws
mod PathMay
mod GrowMay
mod PathCalls
mod GrowCalls
pub mod FreshLaws
mod ReadyLaws
mod GrowWhole
mod VainLaws
mod SpaceTicks
mod SiblingWays
mod SiblingBegins
mod ShrinkMay
mod ShrinkCalls
mod ShrinkWhole
