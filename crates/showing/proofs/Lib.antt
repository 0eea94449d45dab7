mod Marks
mod Numbers
