pub mod ZeroBytes
pub mod KeyLaws
pub mod ByteLaws
pub mod RiseLaws
pub mod PairLaws
pub mod CutLaws
pub mod IndexLaws
pub mod MapLaws
pub mod HistoryLaws
pub mod FitsLaws
pub mod RunLaws
pub mod WriteLaws
pub mod ChunkLaws
pub mod FullRecordLaws
pub mod CompareLaws
mod WorkedRows
