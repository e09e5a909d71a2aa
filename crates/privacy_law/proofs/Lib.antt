pub mod HidingPolynomial
pub mod ChangedPieces
pub mod ChangedRows
pub mod SameQueries
pub mod SameBitmaps
pub mod PartnerLists
