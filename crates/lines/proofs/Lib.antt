mod Firsts
mod Rowwise
