pub use Rattle.quast_walk.specs.Faults
