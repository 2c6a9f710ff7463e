pub mod Shape
pub mod Next
pub mod Apart
pub use Rattle.ir_shape.specs.ShapeTests.Kinds
pub mod ShapeTests
pub mod LineShapes
pub mod ShapeLaws
