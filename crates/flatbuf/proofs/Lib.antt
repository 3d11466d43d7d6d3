mod Places
mod ReadBack
mod Elements
mod Cases
mod Ends
mod Puts
mod FirstThing
