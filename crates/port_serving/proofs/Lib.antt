mod Filing
mod Linking
mod PlaceServed
mod Sent
mod Answering
