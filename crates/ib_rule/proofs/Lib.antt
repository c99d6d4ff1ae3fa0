mod Words
mod Counts
mod Own
mod Stays
pub mod RoomLaws
mod Turning
mod Knowing
mod Moves
mod Sessions
mod Meeting
mod Alone
mod Remains
mod Gains
mod Passing
mod Resting
mod Grows
mod LockSteps
mod MarkSteps
mod Results
mod Outcomes
mod Firsts
mod Opening
mod HeldNow
mod Closing
mod Wishing
pub mod Lists
pub mod Storing
mod Seeing
mod Stored
mod Looking
mod Loading
mod Spelling
pub mod Watching
pub mod Wishes
