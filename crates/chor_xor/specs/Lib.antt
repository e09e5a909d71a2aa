pub mod Bitmap
pub mod Chosen
