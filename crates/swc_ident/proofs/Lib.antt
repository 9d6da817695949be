mod Finding
mod Privacy
mod Reading
