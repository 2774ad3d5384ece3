mod Blocks
mod Places
