mod Hints
mod Runs
