pub mod QueueLaws
pub mod RecordLaws
mod TableLaws
