-- Rows of forms behind the places' rows: what is held, and a pivot of all rows.
use Rattle.std.proofs.Common.{All}
use Rattle.form_run.proofs.Words.{◌≡◌, ◌∙◌, refl, ap, ℕ, ◌+◌, ◌^◌, ◌<◌, ℤ, pos, ◌≤ℤ◌, arith, true, List, [], length, map, get_or, length-append, ints, mul-le, length-map, entry, all_fit, Row, row_at, eliminated, pivot, pivot_listed, TableauRows, norm, none_refused, Basis, NumberLists, IsMeasured, IsRead, read, IsHeld, all_rows, forms_pivot}

-- ---- what is held

pub reads : (t : TableauRows) (b : Basis) (forms columns : NumberLists) (most : ℕ) → IsHeld t b forms columns most → All (IsRead t b) forms.lists
reads t b forms columns most h k d lt = record {
  basis = h.basis;
  wide = h.wide k d lt;
  bound = omega (arith, mul-le (norm (get_or forms.lists k d)) b.most most b.most (h.norms k d lt) (omega arith), h.bound);
}

pub empty_held : (t : TableauRows) (b : Basis) (forms columns : NumberLists) (most : ℕ) → t ≡ record { unknowns = 0; width = 0; rows = [] } → b.scale ≡ pos 1 → b.most ≡ 1 → b.columns.items ≡ []
    → forms ≡ record { size = 1; lists = [] } → columns ≡ record { size = 1; lists = [] } → most < 2 ^ 63 → IsHeld t b forms columns most
empty_held t b forms columns most e scale greatest numbers none alone small =
    rw (e, none, alone) (record {
      basis = rw (scale, greatest, numbers) (record {
        size = refl;
        rows = λ k d lt. absurd (omega (arith, lt));
        positive = omega (arith, ints);
        columns = refl;
        common = omega (arith, ints);
        within = λ k d lt. absurd (omega (arith, lt));
        small = omega arith;
      });
      size = refl;
      wide = λ k d lt. absurd (omega (arith, lt));
      norms = λ k d lt. absurd (omega (arith, lt));
      bound = rw greatest (omega (arith, small));
      columns_size = refl;
      columns_count = refl;
    })

pub all_long : (t : TableauRows) (b : Basis) (forms : List (List ℤ)) → length (all_rows t b forms).rows ≡ length t.rows + length forms
all_long t b forms = length-append t.rows (map (read t b) forms) ∙ ap (λ (k : ℕ). length t.rows + k) (length-map forms (read t b))

-- ---- a pivot of all rows

module _ (t : TableauRows) (b : Basis) (forms columns : NumberLists) (most : ℕ) (h : IsHeld t b forms columns most) where
  pub all_listed : (r c : ℕ) → r < length (all_rows t b forms.lists).rows → c < t.unknowns → all_fit (pivot_listed (all_rows t b forms.lists).rows r c) ≡ true
  all_listed r c lt inside = none_refused t.unknowns 0 t.rows b.scale b.most b.columns.items h.basis forms.lists h.wide (λ k d less. (reads t b forms columns most h k d less).bound) r c lt inside

  pub all_pivot : (r c : ℕ) (a : Basis) → r < length (all_rows t b forms.lists).rows → c < t.unknowns → pos 1 ≤ℤ entry (row_at (all_rows t b forms.lists).rows r).coefs c
      → IsMeasured (record t { rows = map (eliminated (row_at (all_rows t b forms.lists).rows r) c) t.rows }) a
      → all_rows (record t { rows = map (eliminated (row_at (all_rows t b forms.lists).rows r) c) t.rows }) a forms.lists ≡ record (all_rows t b forms.lists) { rows = pivot (all_rows t b forms.lists).rows r c }
  all_pivot r c a lt inside above now =
      ap (λ (rows : List Row). record { unknowns = t.unknowns; width = 0; rows = rows })
      (forms_pivot t.unknowns 0 t.rows b.scale b.most b.columns.items h.basis forms.lists h.wide r c a.scale lt inside above now.positive now.rows)
