pub mod Kept
pub mod Found
pub mod FileOrder
pub mod NewNames
pub mod Assumed
pub mod ShapeTests
pub mod LineShapes
pub mod ShapeLaws
