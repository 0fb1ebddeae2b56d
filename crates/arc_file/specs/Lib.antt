pub mod Arcs
pub mod ArcLaws
pub mod Files
pub mod Streams
pub mod Readers
pub mod Pairs
pub mod Writers
