-- What is read of a form's row is the row.
use Rattle.form_basis.proofs.Words.{◌≡◌, ◌∙◌, ap, sym, subst, ℕ, ◌+◌, ◌*◌, ◌<◌, ◌≤◌, ℤ, pos, ◌*ℤ◌, ◌≤ℤ◌, ◌+ℤ◌, arith, List, [], ◌∷◌, ◌++◌, length, length-append, take, drop, map, entry, dot, Row, count_from, divided, numbers_of, row_of_numbers, TableauRows, length_counted, part_place, OwnStep, Basis, IsRead, summed, valued, combined, read, basis_inside, basis_column, form_summable, place_step, combination_short}
use Rattle.row_laws.specs.Short.{IsShortRow}
use Rattle.row_laws.proofs.Numbers.{row_again}
use Rattle.form_laws.specs.ByForm.{place, over}
use Rattle.form_laws.specs.Columns.{part, IsSummable}

nothing_more : (n : ℕ) → n + 0 ≡ n
nothing_more n = omega arith

-- column k stands in the numbers of the basis
pub inside : (t : TableauRows) (b : Basis) (f : List ℤ) (k : ℕ) → IsRead t b f → k < t.unknowns + 1 → k * t.unknowns + t.unknowns ≤ length b.columns.items
inside t b f k h lt = basis_inside h.basis k (omega (arith, lt))

pub column_is : (t : TableauRows) (b : Basis) (f : List ℤ) (k : ℕ) → IsRead t b f → k < t.unknowns + 1
    → take t.unknowns (drop (k * t.unknowns) b.columns.items) ≡ over b.scale (part t.unknowns k) t.rows
column_is t b f k h lt = basis_column h.basis k (omega (arith, lt))

pub part_constant : (n : ℕ) (L : ℤ) (rows : List Row) → over L (part n n) rows ≡ over L (place 0) rows
part_constant n L rows = ap (λ (k : ℕ). over L (part n k) rows) (sym (nothing_more n)) ∙ part_place n 0 L rows

module _ (t : TableauRows) (b : Basis) (f : List ℤ) (h : IsRead t b f) where
  pub read_summable : (k : ℕ) → k < t.unknowns + 1 → IsSummable f (over b.scale (part t.unknowns k) t.rows)
  read_summable k lt = form_summable h.basis f h.bound k h.wide (omega (arith, lt))

  pub value_step : OwnStep f (over b.scale (place 0) t.rows) b.scale t.unknowns
  value_step = subst (λ (k : ℕ). OwnStep f (over b.scale (place 0) t.rows) b.scale k) (nothing_more t.unknowns) (place_step h.basis f h.bound 0 (omega arith))

  pub constant_is : (combined t b f).constant ≡ valued t b f ∷ []
  constant_is = ap (λ (k : ℕ). (dot f (over b.scale (place 0) t.rows) +ℤ b.scale *ℤ entry f k) ∷ []) (nothing_more t.unknowns)

  pub combined_short : IsShortRow (combined t b f)
  combined_short = combination_short h.basis f h.bound

  pub columns_count : length (combined t b f).coefs ≡ t.unknowns
  columns_count = length_counted (summed t b f) t.unknowns

  -- the numbers that are made
  module _ (numbers : List ℤ) (is : numbers ≡ numbers_of (combined t b f)) where
    pub row_is : row_of_numbers t.unknowns numbers ≡ combined t b f
    row_is = ap (row_of_numbers t.unknowns) is ∙ row_again t.unknowns (combined t b f) columns_count

    pub size_is : length numbers ≡ t.unknowns + 2
    size_is = ap length is ∙ omega (arith, length-append (combined t b f).coefs (combined t b f).constant, columns_count, ap length constant_is)

    pub den_is : pos 1 ≤ℤ (row_of_numbers t.unknowns numbers).den
    den_is = subst (λ (r : Row). pos 1 ≤ℤ r.den) (sym row_is) h.basis.positive

    pub short_is : IsShortRow (row_of_numbers t.unknowns numbers)
    short_is = subst IsShortRow (sym row_is) combined_short

    pub divided_is : divided (row_of_numbers t.unknowns numbers) ≡ read t b f
    divided_is = ap divided row_is

pub numbers_made : (t : TableauRows) (b : Basis) (f numbers : List ℤ) (v : ℤ) → v ≡ valued t b f → numbers ≡ (b.scale ∷ map (summed t b f) (count_from 0 t.unknowns)) ++ v ∷ []
    → numbers ≡ numbers_of (combined t b f)
numbers_made t b f numbers v e is =
    is ∙ ap (λ (z : ℤ). b.scale ∷ (map (summed t b f) (count_from 0 t.unknowns) ++ z ∷ []))
    (e ∙ ap (λ (k : ℕ). dot f (over b.scale (place 0) t.rows) +ℤ b.scale *ℤ entry f k) (sym (nothing_more t.unknowns)))
