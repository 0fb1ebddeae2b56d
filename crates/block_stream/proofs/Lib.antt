pub mod RecordLaws
pub mod ReadLaws
pub mod ItemLaws
pub mod WriteRuns
pub mod CutRuns
