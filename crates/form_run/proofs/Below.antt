-- The first row below 0 among rows that are read off their forms.
use Rattle.form_run.proofs.Words.{◌≡◌, ◌∙◌, refl, ap, sym, subst, ℕ, ◌+◌, ◌-◌, ◌<◌, ◌≤◌, ℤ, pos, negsuc, ◌*ℤ◌, ◌≤ℤ◌, ◌<ℤ◌, arith, Bool, true, false, Option, Some, None, List, [], ◌∷◌, ◌++◌, length, map, drop, get_or, length-append, if◌then◌else◌, ints, drop_more, drop_all, drop-append-le, get_or-map, length-map, map-append, is_nonneg, entry, constant, Row, row_at, form_row, entry-scale, TableauRows, place, wide_by_form, negative_from, Basis, IsRead, valued, combined, read, IsAbove, behind, constant_is, negative-front, is_nonneg_is, All, length-drop, below_behind}
use Rattle.form_basis.proofs.Divided.{undivided}

same_sign : (x : ℕ) (z k : ℤ) → 0 < x → pos x *ℤ z ≡ k → is_nonneg z ≡ is_nonneg k
same_sign x (pos n) (negsuc k) h e = absurd (omega (arith, ints))
same_sign x (negsuc n) (pos k) h e = absurd (omega (arith, ints))
same_sign x _ _ h e = refl

pub negative_is : (x : ℤ) → x <ℤ pos 0 → is_nonneg x ≡ false
negative_is (pos x) h = absurd (omega (arith, ints, h))
negative_is (negsuc x) h = refl

-- the constant of a form's row has the sign of what it is before the division
pub sign_read : (t : TableauRows) (b : Basis) (f : List ℤ) → IsRead t b f → is_nonneg (constant (read t b f).constant) ≡ is_nonneg (valued t b f)
sign_read t b f h =
    let u = undivided (combined t b f) h.basis.positive in
    let wide = wide_by_form t.unknowns 0 b.scale t.rows f (omega (arith, ints, h.basis.positive)) in
    let last : length (read t b f).constant - 1 ≡ 0 = omega (arith, wide.constant) in
    ap (λ (k : ℕ). is_nonneg (entry (read t b f).constant k)) last
    ∙ same_sign u.by (entry (read t b f).constant 0) (valued t b f) u.positive
    (sym (entry-scale (pos u.by) (read t b f).constant 0) ∙ ap (place 0) u.is ∙ ap (λ (zs : List ℤ). entry zs 0) (constant_is t b f h))

-- ---- row after row

pub below_more : (rows : List Row) (k i : ℕ) → i < length rows → is_nonneg (constant (row_at rows i).constant) ≡ true → negative_from (k + i) (drop i rows) ≡ negative_from (k + (i + 1)) (drop (i + 1) rows)
below_more rows k i lt e =
    let s : (k + i) + 1 ≡ k + (i + 1) = omega arith in
    ap (negative_from (k + i)) (drop_more rows i (form_row 0 []) lt)
    ∙ ap (λ (b : Bool). if b then negative_from ((k + i) + 1) (drop (i + 1) rows) else Some (k + i)) e
    ∙ ap (λ (j : ℕ). negative_from j (drop (i + 1) rows)) s

pub below_here : (rows : List Row) (k i : ℕ) → i < length rows → is_nonneg (constant (row_at rows i).constant) ≡ false → negative_from (k + i) (drop i rows) ≡ Some (k + i)
below_here rows k i lt e =
    ap (negative_from (k + i)) (drop_more rows i (form_row 0 []) lt)
    ∙ ap (λ (b : Bool). if b then negative_from ((k + i) + 1) (drop (i + 1) rows) else Some (k + i)) e

module _ (t : TableauRows) (b : Basis) (forms : List (List ℤ)) (h : All (IsRead t b) forms) (k i : ℕ) where
  rows : List Row
  rows = map (read t b) forms

  pub form_read : i < length forms → (f : List ℤ) → f ≡ get_or forms i [] → IsRead t b f
  form_read lt f is = subst (IsRead t b) (sym is) (h i [] lt)

  -- form i, and its value
  module _ (lt : i < length forms) (f : List ℤ) (is : f ≡ get_or forms i []) (v : ℤ) (e : v ≡ valued t b f) where
    inside : i < length rows
    unfolding rows
    inside = omega (arith, lt, length-map forms (read t b))

    sign_here : is_nonneg (constant (row_at rows i).constant) ≡ is_nonneg v
    unfolding rows
    sign_here =
        ap (λ (r : Row). is_nonneg (constant r.constant)) (get_or-map (read t b) forms i [] (form_row 0 []) lt ∙ ap (read t b) (sym is))
        ∙ sign_read t b f (form_read lt f is) ∙ ap is_nonneg (sym e)

    pub form_above : pos 0 ≤ℤ v → negative_from k (map (read t b) forms) ≡ negative_from (k + i) (drop i (map (read t b) forms)) → negative_from k (map (read t b) forms) ≡ negative_from (k + (i + 1)) (drop (i + 1) (map (read t b) forms))
    unfolding rows
    form_above above before = before ∙ below_more rows k i inside (sign_here ∙ is_nonneg_is v above)

    pub form_negative : v <ℤ pos 0 → negative_from k (map (read t b) forms) ≡ negative_from (k + i) (drop i (map (read t b) forms)) → behind k (Some i) ≡ negative_from k (map (read t b) forms)
    unfolding rows
    form_negative under before = sym (before ∙ below_here rows k i inside (sign_here ∙ negative_is v under))

  pub none_negative : length forms ≤ i → negative_from k (map (read t b) forms) ≡ negative_from (k + i) (drop i (map (read t b) forms)) → behind k None ≡ negative_from k (map (read t b) forms)
  unfolding rows
  none_negative long before = sym (before ∙ ap (negative_from (k + i)) (drop_all i rows (omega (arith, long, length-map forms (read t b)))))

pub starts_below : (rows : List Row) (k : ℕ) → negative_from k rows ≡ negative_from (k + 0) (drop 0 rows)
starts_below rows k = let e : k ≡ k + 0 = omega arith in ap (λ (j : ℕ). negative_from j rows) e

-- ---- rows in two parts

pub behind_all : (R S : List Row) (o : Option ℕ) → negative_from 0 R ≡ None → behind (length R) o ≡ negative_from (length R) S → behind (length R) o ≡ negative_from 0 (R ++ S)
behind_all R S o above e =
    let s : 0 + length R ≡ length R = omega arith in
    e ∙ sym (below_behind R S 0 above ∙ ap (λ (j : ℕ). negative_from j S) s)

-- ---- forms that are known not to be below 0

pub none_above : (t : TableauRows) (b : Basis) (forms : List (List ℤ)) → IsAbove t b forms 0
none_above t b forms = record { within = omega arith; first = starts_below (map (read t b) forms) (length t.rows) }

first_of_all : (rows S : List Row) (k i : ℕ) → i ≤ length rows → negative_from k rows ≡ negative_from (k + i) (drop i rows) → negative_from k (rows ++ S) ≡ negative_from (k + i) (drop i (rows ++ S))
first_of_all rows S k i le e =
    by (negative_from k rows) refl ∙ ap (negative_from (k + i)) (sym (drop-append-le i rows S le))
  where
    by : (o : Option ℕ) → negative_from k rows ≡ o → negative_from k (rows ++ S) ≡ negative_from (k + i) (drop i rows ++ S)
    by None none =
        let long : k + length rows ≡ (k + i) + length (drop i rows) = omega (arith, le, length-drop i rows) in
        below_behind rows S k none ∙ ap (λ (j : ℕ). negative_from j S) long ∙ sym (below_behind (drop i rows) S (k + i) (sym e ∙ none))
    by (Some r) some = negative-front rows S k r some ∙ sym (negative-front (drop i rows) S (k + i) r (sym e ∙ some))

pub above_more : (t : TableauRows) (b : Basis) (forms : List (List ℤ)) (f : List ℤ) (i : ℕ) → IsAbove t b forms i → IsAbove t b (forms ++ f ∷ []) i
above_more t b forms f i h = record {
  within = omega (arith, h.within, length-append forms (f ∷ []));
  first =
      let more = map-append (read t b) forms (f ∷ []) in
      ap (negative_from (length t.rows)) more
      ∙ first_of_all (map (read t b) forms) (map (read t b) (f ∷ [])) (length t.rows) i (omega (arith, h.within, length-map forms (read t b))) h.first
      ∙ ap (λ (rows : List Row). negative_from (length t.rows + i) (drop i rows)) (sym more);
}
