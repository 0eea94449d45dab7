mod Vacant
mod Walked
