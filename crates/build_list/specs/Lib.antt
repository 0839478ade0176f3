pub mod KeyList
pub mod ListLaws
pub mod LongKeys
pub mod RecordLaws
