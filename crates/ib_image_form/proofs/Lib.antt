pub mod RestoredLaws
mod CopyLaws
