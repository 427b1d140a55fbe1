mod Options
mod Words
