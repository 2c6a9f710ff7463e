pub mod Among
pub mod FirstPlaces
