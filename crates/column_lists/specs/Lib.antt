pub mod Numbers
pub mod Agreement
