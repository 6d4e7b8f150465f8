mod WordsTaken
mod LinesTaken
mod Stepping
mod Lines
mod Ended
mod Loops
mod FromStd
