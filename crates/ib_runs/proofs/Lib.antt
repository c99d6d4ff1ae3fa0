mod AccessLaws
mod AloneChunkLaws
mod AloneLaws
mod AlonePageLaws
mod AlonePlaceLaws
mod AloneReplyLaws
mod AnswerLaws
mod ChunkLaws
mod EndLaws
mod FullLogLaws
pub mod GrantLaws
mod GuestLaws
mod IndexLaws
mod OutcomeLaws
mod Printing
mod ReadLaws
mod ReadOffLaws
mod TurnLaws
