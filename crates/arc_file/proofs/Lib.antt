mod OrderLaws
mod StreamLaws
mod PairLaws
pub mod WriterLaws
