pub mod SameTuples
mod WorkedCounts
