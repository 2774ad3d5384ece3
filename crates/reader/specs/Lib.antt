pub mod Books
pub mod Layouts
