mod Lawfully
mod Stepwise
