mod Given
mod Refuting
mod Turning
mod LeqResumes
