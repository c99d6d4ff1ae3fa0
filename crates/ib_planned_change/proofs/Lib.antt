pub mod WorkLaws
pub mod PlanLaws
pub mod ShrinkPlanLaws
pub mod PlanCommits
mod CopyLaws
mod PutBackLaws
pub mod BehindLaws
mod DescentLaws
pub mod ChangeLaws
mod MadeLaws
mod BesideLaws
mod LeafLaws
mod ChooseLaws
mod ShrinkLaws
