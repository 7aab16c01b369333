use Rattle.quast.proofs.Words.{◌≡◌, ◌+◌, ◌-◌, ◌≤◌, true, map, take, length, vec_len, vec_capacity, list_all, value, Fits, value_fits}
use Rattle.std.proofs.Common.{All}
use Rattle.quast.proofs.place.put_numerators.Given as goal

abbrev pub invariant-loop-c : goal.invariant-loop-c
invariant-loop-c l = record {
  room : vec_len l.out + (length l.components - l.c-index) ≤ vec_capacity l.out;
  kept : vec_capacity l.initial.out ≤ vec_capacity l.out;
  fit : list_all (value_fits l.vector) (take l.c-index l.components) ≡ true;
  numbers : All Fits l.out.items;
  values : l.out.items ≡ map (λ c. value c.form l.vector) (take l.c-index l.components);
}
