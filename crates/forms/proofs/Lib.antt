mod Letters
mod Gained
mod Paired
