mod Blocks
mod Finding
mod Filling
mod Growing
mod Below
