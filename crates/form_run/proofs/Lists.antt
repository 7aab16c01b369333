-- Lists one behind another, by their places.
use Rattle.std.proofs.Common.{length-drop}
use Rattle.std.proofs.Math.Nat.{suc-mul}
use Rattle.form_run.proofs.Words.{◌≡◌, ◌∙◌, refl, ap, sym, ℕ, zero, suc, ◌+◌, ◌*◌, ◌<◌, ◌≤◌, ℤ, arith, List, [], ◌∷◌, ◌++◌, length, take, drop, get_or, drop-drop, take-append-le, drop-append-le, take_all, NumberLists, lists_in}

one_more : (i s : ℕ) → suc i * s ≡ s + i * s
one_more i s = suc-mul i s ∙ omega arith

pub length_lists : (s k : ℕ) (zs : List ℤ) → length (lists_in s k zs) ≡ k
length_lists s zero zs = refl
length_lists s (suc k) zs = ap suc (length_lists s k (drop s zs))

pub list_here : (s k i : ℕ) (zs : List ℤ) → i < k → get_or (lists_in s k zs) i [] ≡ take s (drop (i * s) zs)
list_here s zero i zs lt = absurd (omega arith)
list_here s (suc k) zero zs lt = let none : 0 * s ≡ 0 = grind arith in rw none refl
list_here s (suc k) (suc i) zs lt =
    list_here s k i (drop s zs) (omega arith)
    ∙ ap (take s) (drop-drop (i * s) s zs ∙ ap (λ (j : ℕ). drop j zs) (sym (one_more i s)))

pub lists_more : (s k : ℕ) (zs ys : List ℤ) → length zs ≡ k * s → length ys ≡ s → lists_in s (k + 1) (zs ++ ys) ≡ lists_in s k zs ++ ys ∷ []
lists_more s zero [] ys e f = rw (take_all s ys (omega arith)) refl
lists_more s zero (z ∷ zs) ys e f = absurd (none (length zs) s e)
  where
    none : (n s : ℕ) → suc n ≡ 0 * s → ⊥
    none n s e = grind arith
lists_more s (suc k) zs ys e f =
    let whole = one_more k s in
    let long : s ≤ length zs = omega (arith, e, whole) in
    let rest : length (drop s zs) ≡ k * s = length-drop s zs ∙ omega (arith, e, whole) in
    let g : suc k + 1 ≡ suc (k + 1) = omega arith in
    rw (g, take-append-le s zs ys long, drop-append-le s zs ys long, lists_more s k (drop s zs) ys rest f) refl

pub count_is : (s k : ℕ) (zs : List ℤ) (t : NumberLists) → record { size = s; lists = lists_in s k zs } ≡ t → k ≡ length t.lists
count_is s k zs t view = sym (length_lists s k zs) ∙ ap (λ (l : NumberLists). length l.lists) view

pub pushed_view : (s k : ℕ) (zs ys now : List ℤ) (t : NumberLists) → record { size = s; lists = lists_in s k zs } ≡ t → length zs ≡ k * s → length ys ≡ s → now ≡ zs ++ ys
    → record { size = s; lists = lists_in s (k + 1) now } ≡ record t { lists = t.lists ++ ys ∷ [] }
pushed_view s k zs ys now t view e f is =
    ap (λ (l : List (List ℤ)). record { size = s; lists = l }) (ap (lists_in s (k + 1)) is ∙ lists_more s k zs ys e f)
    ∙ ap (λ (l : NumberLists). record l { lists = l.lists ++ ys ∷ [] }) view
