mod Alone
mod BufferLemmas
mod Encoded
mod Gathering
mod Meant
mod RunSteps
mod Steps
mod Streams
