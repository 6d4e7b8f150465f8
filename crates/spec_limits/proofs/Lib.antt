mod Made
mod Ended
mod Shallow
mod Within
mod Same
mod Merging
