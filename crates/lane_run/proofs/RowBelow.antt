-- The first row below 0 of a point's run: of the columns, of the forms, of the cuts.
use Rattle.lane_run.proofs.Words.{◌≡◌, sym, subst, ℕ, ◌+◌, ◌*◌, ◌^◌, ◌<◌, ℤ, arith, None, List, ◌++◌, length, get_or, take, drop, length-append, All, mul-le, get_or_append_left, get_or-append-add, Row, norm, ScaledTable, negative_from, IsWithin, AreWithin, run_rows, forms_of, IsRowBelow, AreNotBelow, IsFirstRowBelow, IsReadBy, made_rows}
use Rattle.lane_run.proofs.FirstBelow.{none_negative, first_negative, both_above, first_front, first_behind}
use Rattle.lane_run.proofs.Parts.{in_four_parts}

-- ---- forms that are read

read_within : (most bound : ℕ) (form : List ℤ) → IsWithin bound form → bound * most < 2 ^ 31 → IsReadBy most form
read_within most bound form h lt = record {
  lanes = h.lanes;
  bound = let le = mul-le (norm form) most bound most h.norm (omega arith) in omega (arith, le, lt);
}

module _ (most bound : ℕ) (A B : List (List ℤ)) (h : AreWithin bound (A ++ B)) (lt : bound * most < 2 ^ 31) where
  pub front_read : All (IsReadBy most) A
  front_read = λ k d inside. read_within most bound (get_or A k d)
      (subst (IsWithin bound) (get_or_append_left A B d k inside) (h k d (omega (arith, inside, length-append A B)))) lt

  pub back_read : All (IsReadBy most) B
  back_read = λ k d inside. read_within most bound (get_or B k d)
      (subst (IsWithin bound) (get_or-append-add A B k d) (h (length A + k) d (omega (arith, inside, length-append A B)))) lt

-- ---- the first row of all

of_all : (t : ScaledTable) (F : List (List ℤ)) (row : List ℤ) → IsFirstRowBelow t (run_rows t F) row → IsRowBelow t F row
of_all t F row h = record {
  place = h.place;
  first = first_negative t (run_rows t F) row h;
  within = h.within;
  lanes = h.lanes;
  unused = h.unused;
  same = h.same;
}

module _ (t : ScaledTable) (A B : List (List ℤ)) where
  abbrev columns : List Row
  columns = take t.unknowns t.rows

  abbrev cuts : List Row
  cuts = drop t.unknowns t.rows

  abbrev behind : List Row
  behind = (made_rows t A ++ made_rows t B) ++ drop t.unknowns t.rows

  of_parts : (row : List ℤ) → IsFirstRowBelow t (columns ++ behind) row → IsRowBelow t (forms_of t.unknowns (A ++ B)) row
  of_parts row h = of_all t (forms_of t.unknowns (A ++ B)) row (subst (λ (R : List Row). IsFirstRowBelow t R row) (sym (in_four_parts t A B)) h)

  pub of_column : (row : List ℤ) → IsFirstRowBelow t columns row → IsRowBelow t (forms_of t.unknowns (A ++ B)) row
  of_column row h = of_parts row (first_front columns behind t row h)

  module _ (above : AreNotBelow columns) where
    pub of_form : (row : List ℤ) → IsFirstRowBelow t (made_rows t A) row → IsRowBelow t (forms_of t.unknowns (A ++ B)) row
    of_form row h = of_parts row (first_behind columns behind t row above
        (first_front (made_rows t A ++ made_rows t B) cuts t row (first_front (made_rows t A) (made_rows t B) t row h)))

    module _ (forms : AreNotBelow (made_rows t A)) where
      pub of_further : (row : List ℤ) → IsFirstRowBelow t (made_rows t B) row → IsRowBelow t (forms_of t.unknowns (A ++ B)) row
      of_further row h = of_parts row (first_behind columns behind t row above
          (first_front (made_rows t A ++ made_rows t B) cuts t row (first_behind (made_rows t A) (made_rows t B) t row forms h)))

      module _ (further : AreNotBelow (made_rows t B)) where
        both : AreNotBelow (made_rows t A ++ made_rows t B)
        both = both_above (made_rows t A) (made_rows t B) forms further

        pub of_cut : (row : List ℤ) → IsFirstRowBelow t cuts row → IsRowBelow t (forms_of t.unknowns (A ++ B)) row
        of_cut row h = of_parts row (first_behind columns behind t row above (first_behind (made_rows t A ++ made_rows t B) cuts t row both h))

        pub none_of_all : AreNotBelow cuts → negative_from 0 (run_rows t (forms_of t.unknowns (A ++ B))) ≡ None
        none_of_all last = subst (λ (R : List Row). negative_from 0 R ≡ None) (sym (in_four_parts t A B))
            (none_negative (columns ++ behind) (both_above columns behind above (both_above (made_rows t A ++ made_rows t B) cuts both last)))
