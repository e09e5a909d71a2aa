pub mod Lines
pub mod Form
pub mod Window
pub mod Reading
pub mod Taking
pub mod Keys
