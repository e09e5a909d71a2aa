pub mod Partner
pub use Rattle.share_bytes.specs.Share
