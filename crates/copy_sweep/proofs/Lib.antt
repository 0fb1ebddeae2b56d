pub mod Copying
mod Rebuilding
