-- What contracts see of the sources and sinks.
use Rattle.std.specs.Prelude.{ℕ, List, Option}
use Rattle.pip_outside.specs.Plans.{CallPlan}

-- a source in memory: the bytes left, how many were taken, what its calls do, and how often one has failed
pub record MemoryInput : Type 0 where
  pub left : List ℕ
  pub taken : ℕ
  pub plan : CallPlan
  pub faults : ℕ

-- a sink in memory: the bytes written, what its calls do, and how often one has failed
pub record MemoryOutput : Type 0 where
  pub written : List ℕ
  pub plan : CallPlan
  pub faults : ℕ

-- a source over a reader of std: what the reader says that is left in it, and how often a read has failed
pub record ReaderInput : Type 0 where
  pub remaining : Option (List ℕ)
  pub faults : ℕ

-- a sink over a writer of std: what the writer says that it holds, and how often a write has failed
pub record WriterOutput : Type 0 where
  pub contents : Option (List ℕ)
  pub faults : ℕ
