pub mod SpaceLaws
pub mod WriteLaws
pub mod RoomLaws
pub mod BufferLaws
pub mod StoreLaws
pub mod OpeningLaws
