pub mod EventLines
pub mod EventRead
pub mod EventsInRange
pub mod EventsTaken
