pub mod Printed
pub mod Sessions
pub mod Texts
