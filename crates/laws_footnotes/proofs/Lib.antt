pub mod Called
mod Contents
mod Numbers
mod Section
mod Defined
mod Printed
mod Ids
