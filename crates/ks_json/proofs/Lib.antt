mod Reading
mod Views
