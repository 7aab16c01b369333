pub mod InLanes
pub mod Kept
pub mod Signs
pub mod Asking
pub mod Behind
pub use Rattle.point_turns.specs.Points
