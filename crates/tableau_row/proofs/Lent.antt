-- The numbers of a row that stand last, lent and written.
use Rattle.tableau_row.proofs.Words.{◌≡◌, refl, ap, sym, ◌∙◌, ℕ, ◌<◌, ◌≤◌, ℤ, List, ◌++◌, length, take, drop, length-append, append-nil, arith, vec_len, vec_capacity, Vec, take_at, drop_at, take_all, drop_all, Row, numbers_of, row_of_numbers, Appends, row_again}
use Rattle.std.specs.Vec.{with_items}
use Rattle.std.specs.declared.alloc.Global.{Global}

-- ---- numbers with others behind them

pub appends : (old new : Vec ℤ Global) (zs : List ℤ) → new.items ≡ old.items ++ zs → vec_capacity old ≤ vec_capacity new → Appends old new zs
appends old new zs e room = record {
  items = e;
  count = omega (arith, new.ok.0, old.ok.0, ap length e, length-append old.items zs);
  room = room;
}

-- ---- the numbers of row r, over n columns, that stand last

pub record IsLast (n : ℕ) (last : List ℤ) (r : Row) : Type 0 where
  pub numbers : last ≡ numbers_of r
  pub longer : n < length last
  pub row : row_of_numbers n last ≡ r

pub lent : (old all : Vec ℤ Global) (last : List ℤ) (n start : ℕ) (r : Row) → Appends old all (numbers_of r) → length r.coefs ≡ n → last ≡ drop start all.items → start ≡ vec_len old → IsLast n last r
lent old all last n start r h long e f =
    let told : last ≡ numbers_of r = e ∙ ap (drop start) h.items ∙ drop_at old.items (numbers_of r) start (sym (f ∙ old.ok.0)) in
    record {
      numbers = told;
      longer = omega (arith, ap length told, length-append r.coefs r.constant, long);
      row = ap (row_of_numbers n) told ∙ row_again n r long;
    }

-- the numbers of row d are written over them
pub written_last : (old all : Vec ℤ Global) (front last new : List ℤ) (n start : ℕ) (r d : Row) → Appends old all (numbers_of r) → IsLast n last r
    → front ≡ take start all.items → start ≡ vec_len old → new ≡ numbers_of d → length new ≡ length last → Appends old (with_items all (front ++ new)) (numbers_of d)
written_last old all front last new n start r d h k e f g same =
    let begun : front ≡ old.items = e ∙ ap (take start) h.items ∙ take_at old.items (numbers_of r) start (sym (f ∙ old.ok.0)) in
    let size : length (numbers_of d) ≡ length (numbers_of r) = sym (ap length g) ∙ same ∙ ap length k.numbers in
    let long : length (front ++ new) ≡ length all.items = omega (arith, length-append front new, ap length begun, same, ap length k.numbers, h.count, all.ok.0, old.ok.0) in
    record {
      items =
          ap (λ (xs : List ℤ). take (vec_len all) ((front ++ new) ++ xs)) (drop_all (length (front ++ new)) all.items (omega (arith, long)))
          ∙ ap (take (vec_len all)) (append-nil (front ++ new))
          ∙ take_all (vec_len all) (front ++ new) (omega (arith, all.ok.0, long))
          ∙ rw (begun, g) refl;
      count = omega (arith, h.count, size);
      room = h.room;
    }
