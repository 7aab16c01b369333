pub mod Classes
pub use Rattle.context_points.specs.Scoped
pub use Rattle.context_points.specs.declared.context.ContextMark
