mod Lookups
mod Events
mod Paths
mod Endings
mod Reached
mod Answered
mod Stops
