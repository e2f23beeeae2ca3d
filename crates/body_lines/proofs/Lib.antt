mod Hearings
mod Places
mod Readings
mod Steps
mod Wholes
