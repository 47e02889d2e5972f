mod Growing
mod Sitting
mod Noting
mod Wording
mod Acting
mod Setting
mod Reading
mod Introducing
