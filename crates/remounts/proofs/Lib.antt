mod Followed
mod Turns
