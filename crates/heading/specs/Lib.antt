pub mod Given
pub mod Heading
