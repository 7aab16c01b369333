use Rattle.std.proofs.lemmas.List.{take_rest}
use Rattle.pip_outside.proofs.Parts.{read_at}
use Rattle.pip_outside.proofs.memory_source.MemorySourceSource.read.Goals as goal

pub returns-clause-bytes : goal.returns-clause-bytes
returns-clause-bytes c = rw (← c.self.view_is) (rw (← c.deref.ensures.value) (read_at _ _ _ _ (simp take_rest at c.copy_front-count.ensures.front) (simp take_rest at c.copy_front-count.ensures.end)))
