pub mod FileLaws
pub mod TreeSteps
pub mod ReplayLaws
pub mod OnlyLog
pub mod OneFault
pub mod OldLogLaws
