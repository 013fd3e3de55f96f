mod Arranged
mod Consistency
mod Equated
mod Gathering
mod Promising
mod Running
mod Single
