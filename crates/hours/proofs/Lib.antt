pub mod Linewise
