-- Steps of a sum to which a multiple of a form is added in place, entry by entry, and of a sum of terms.
use Rattle.derivation_steps.proofs.Words.{◌≡◌, refl, ap, sym, ◌∙◌, ℕ, ◌+◌, ◌<◌, ◌≤◌, ℤ, ◌+ℤ◌, ◌*ℤ◌, pos, Bool, true, false, ◌&&◌, List, [], ◌∷◌, ◌++◌, length, take, drop, set, get_or, append_assoc, arith, Ok, Err, IsTrue, IsFalse, nat_lt, unsigned_abs, slice_index_or, Option, Some, None, IfSome, drop_more, drop_all, take_more_set, drop-set-lt, fits, is_nonneg, scale, all_fit, ◌>>=◌, ◌>>◌, Spot, CheckFault, Checks, plus_term, plus_term_listed, Fits, sum_of, holds, fit, fit_behind, fit_never, list_all-append}
use Rattle.std.proofs.lemmas.List.{set-get_or}
use Rattle.derivation_steps.proofs.Spreading.{times_zero, plus_zero}

-- ---- a multiple

-- the numbers of one entry, and those of all entries, entry by entry
abbrev pub listed_at : ℤ → ℤ → ℤ → List ℤ
listed_at sum m c = (m *ℤ c) ∷ (sum +ℤ m *ℤ c) ∷ []

abbrev pub entries_listed : List ℤ → ℤ → List ℤ → List ℤ
entries_listed [] m c = []
entries_listed (x ∷ sum) m [] = []
entries_listed (x ∷ sum) m (y ∷ c) = (m *ℤ y) ∷ (x +ℤ m *ℤ y) ∷ entries_listed sum m c

between : (a b c d : Bool) → (b && (a && (c && d))) ≡ (b && (c && (a && d)))
between true true true d = refl
between true true false d = refl
between false true true d = refl
between false true false d = refl
between a false c d = refl

-- the same numbers in another order
pub entries_listed-fit : (sum : List ℤ) (m : ℤ) (c : List ℤ) → length sum ≡ length c → all_fit (entries_listed sum m c) ≡ all_fit (plus_term_listed sum m c)
entries_listed-fit [] m [] e = refl
entries_listed-fit [] m (y ∷ c) e = absurd (omega arith)
entries_listed-fit (x ∷ sum) m [] e = absurd (omega arith)
entries_listed-fit (x ∷ sum) m (y ∷ c) e =
    let rest : all_fit (entries_listed sum m c) ≡ all_fit (scale m c ++ plus_term sum m c) = entries_listed-fit sum m c (omega arith) in
    rw (rest, list_all-append fits (scale m c) (plus_term sum m c), list_all-append fits (scale m c) ((x +ℤ m *ℤ y) ∷ plus_term sum m c))
    (sym (between (all_fit (scale m c)) (fits (m *ℤ y)) (fits (x +ℤ m *ℤ y)) (all_fit (plus_term sum m c))))

module _ (now : List ℤ) (m : ℤ) (c : List ℤ) (i : ℕ) (x : ℤ) where
  pub entries_step : i < length now → i < length c → IsTrue (all_fit (listed_at (get_or now i (pos 0)) m (get_or c i (pos 0))))
      → all_fit (entries_listed (drop i now) m (drop i c)) ≡ all_fit (entries_listed (drop (i + 1) (set now i x)) m (drop (i + 1) c))
  entries_step h k e =
      rw (drop-set-lt (i + 1) now i x (omega arith), drop_more now i (pos 0) h, drop_more c i (pos 0) k)
      (fit_behind (listed_at (get_or now i (pos 0)) m (get_or c i (pos 0))) (entries_listed (drop (i + 1) now) m (drop (i + 1) c)) e)

  pub multiple_step : i < length now → i < length c → x ≡ get_or now i (pos 0) +ℤ m *ℤ get_or c i (pos 0)
      → take (i + 1) (set now i x) ++ plus_term (drop (i + 1) (set now i x)) m (drop (i + 1) c) ≡ take i now ++ plus_term (drop i now) m (drop i c)
  multiple_step h k e =
      rw (drop-set-lt (i + 1) now i x (omega arith), take_more_set now i x h, drop_more now i (pos 0) h, drop_more c i (pos 0) k, e)
      (append_assoc (take i now) _ _)

-- an entry of 0 adds nothing
module _ (now : List ℤ) (m : ℤ) (c : List ℤ) (i : ℕ) (h : i < length now) (k : i < length c) (zero : get_or c i (pos 0) ≡ pos 0) where
  same : get_or now i (pos 0) ≡ get_or now i (pos 0) +ℤ m *ℤ get_or c i (pos 0)
  same = rw (zero, times_zero m) (sym (plus_zero (get_or now i (pos 0))))

  pub entries_passed : Fits (get_or now i (pos 0)) → all_fit (entries_listed (drop i now) m (drop i c)) ≡ all_fit (entries_listed (drop (i + 1) now) m (drop (i + 1) c))
  entries_passed fit =
      rw (set-get_or now i (pos 0)) at (entries_step now m c i (get_or now i (pos 0)) h k (rw (← same, zero, times_zero m, fit) refl))

  pub multiple_passed : take (i + 1) now ++ plus_term (drop (i + 1) now) m (drop (i + 1) c) ≡ take i now ++ plus_term (drop i now) m (drop i c)
  multiple_passed = rw (set-get_or now i (pos 0)) at (multiple_step now m c i (get_or now i (pos 0)) h k same)

pub entries_refused : (now : List ℤ) (m : ℤ) (c : List ℤ) (i : ℕ) → i < length now → i < length c → IsFalse (all_fit (listed_at (get_or now i (pos 0)) m (get_or c i (pos 0))))
    → IsFalse (all_fit (entries_listed (drop i now) m (drop i c)))
entries_refused now m c i h k e =
    rw (drop_more now i (pos 0) h, drop_more c i (pos 0) k)
    (fit_never (listed_at (get_or now i (pos 0)) m (get_or c i (pos 0))) (entries_listed (drop (i + 1) now) m (drop (i + 1) c)) e)

pub multiple_refused : (first now : List ℤ) (m : ℤ) (c : List ℤ) (i : ℕ) → length first ≡ length c → i < length now → i < length c
    → all_fit (entries_listed (drop i now) m (drop i c)) ≡ all_fit (entries_listed first m c)
    → IsFalse (all_fit (listed_at (get_or now i (pos 0)) m (get_or c i (pos 0)))) → IsFalse (all_fit (plus_term_listed first m c))
multiple_refused first now m c i same h k e f = sym (entries_listed-fit first m c same) ∙ sym e ∙ entries_refused now m c i h k f

pub multiple_fits : (first now : List ℤ) (m : ℤ) (c : List ℤ) (i : ℕ) → length first ≡ length c → length now ≤ i
    → all_fit (entries_listed (drop i now) m (drop i c)) ≡ all_fit (entries_listed first m c) → IsTrue (all_fit (plus_term_listed first m c))
multiple_fits first now m c i same h e = sym (entries_listed-fit first m c same) ∙ sym e ∙ (rw (drop_all i now h) refl)

-- ---- terms

module _ (at : Spot) (known : List (List ℤ)) (sum : List ℤ) where
  first_and_rest : (t : ℤ × ℤ) (ts : List (ℤ × ℤ)) → sum_of at known sum (t ∷ ts) ≡ (sum_of at known sum (t ∷ []) >>= (λ (now : List ℤ). sum_of at known now ts))
  first_and_rest t ts =
      let c = slice_index_or known (unsigned_abs t.0) [] in
      go (holds at (is_nonneg t.1)) (holds at (is_nonneg t.0 && nat_lt (unsigned_abs t.0) (length known))) (fit at (plus_term_listed sum t.1 c)) (plus_term sum t.1 c)
    where
      go : (r s t : Checks (Unit {0})) (now : List ℤ) → (r >> (s >> (t >> sum_of at known now ts))) ≡ ((r >> (s >> (t >> Ok now))) >>= (λ (now : List ℤ). sum_of at known now ts))
      go (Ok x) (Ok y) (Ok z) now = refl
      go (Ok x) (Ok y) (Err f) now = refl
      go (Ok x) (Err f) t now = refl
      go (Err f) s t now = refl

  pub terms_stop : (ts : List (ℤ × ℤ)) (i : ℕ) (d : ℤ × ℤ) (f : CheckFault) → i < length ts → sum_of at known sum (get_or ts i d ∷ []) ≡ Err f → sum_of at known sum (drop i ts) ≡ Err f
  terms_stop ts i d f h e =
      ap (sum_of at known sum) (drop_more ts i d h)
      ∙ first_and_rest (get_or ts i d) (drop (i + 1) ts)
      ∙ ap (λ (x : Checks (List ℤ)). x >>= (λ (now : List ℤ). sum_of at known now (drop (i + 1) ts))) e

  pub terms_next : (first : List ℤ) (ts : List (ℤ × ℤ)) (i : ℕ) (d : ℤ × ℤ) (now : List ℤ) → i < length ts → sum_of at known first ts ≡ sum_of at known sum (drop i ts)
      → sum_of at known sum (get_or ts i d ∷ []) ≡ Ok now → sum_of at known first ts ≡ sum_of at known now (drop (i + 1) ts)
  terms_next first ts i d now h e k =
      e
      ∙ ap (sum_of at known sum) (drop_more ts i d h)
      ∙ first_and_rest (get_or ts i d) (drop (i + 1) ts)
      ∙ ap (λ (x : Checks (List ℤ)). x >>= (λ (now : List ℤ). sum_of at known now (drop (i + 1) ts))) k

  pub terms_refused : (first : List ℤ) (ts : List (ℤ × ℤ)) (i : ℕ) (d : ℤ × ℤ) (o : Option CheckFault) → i < length ts → sum_of at known first ts ≡ sum_of at known sum (drop i ts)
      → IfSome o (λ f. sum_of at known sum (get_or ts i d ∷ []) ≡ Err f) → IfSome o (λ f. sum_of at known first ts ≡ Err f)
  terms_refused first ts i d None h e k = tt
  terms_refused first ts i d (Some f) h e k = e ∙ terms_stop ts i d f h k
