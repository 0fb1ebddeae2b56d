pub mod Placing
mod Missing
mod Gathered
mod Written
