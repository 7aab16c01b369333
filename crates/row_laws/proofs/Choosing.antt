-- Steps of the choice among the candidates.
use Rattle.row_laws.proofs.Words.{◌≡◌, refl, ap, ◌∙◌, ℕ, suc, ◌+◌, ◌-◌, ◌<◌, Bool, true, false, ◌&&◌, Option, Some, None, List, [], ◌∷◌, length, filter, arith, IsTrue, IsFalse, fits, is_positive, all_fit, Row, count_from, candidates, better, better_listed, choice, choice_listed, candidates_from, compared, list_all-append, entry}

count_more : (k n : ℕ) → k < n → count_from k (n - k) ≡ k ∷ count_from (k + 1) (n - (k + 1))
count_more k n h = let e : n - k ≡ suc (n - (k + 1)) = omega arith in rw e refl

pub candidate_more : (p : Row) (k : ℕ) → k < length p.coefs → is_positive (entry p.coefs k) ≡ true → candidates_from p k ≡ k ∷ candidates_from p (k + 1)
candidate_more p k h e = rw (count_more k (length p.coefs) h, e) refl

pub candidate_less : (p : Row) (k : ℕ) → k < length p.coefs → is_positive (entry p.coefs k) ≡ false → candidates_from p k ≡ candidates_from p (k + 1)
candidate_less p k h e = rw (count_more k (length p.coefs) h, e) refl

filter_none : (f : ℕ → Bool) (ks : List ℕ) → ((k : ℕ) → f k ≡ false) → filter f ks ≡ []
filter_none f [] all = refl
filter_none f (k ∷ ks) all = rw (all k) (filter_none f ks all)

-- a row that is positive in no column has no candidate
pub no_candidates : (p : Row) → ((k : ℕ) → is_positive (entry p.coefs k) ≡ false) → candidates p ≡ []
no_candidates p all = filter_none (λ k. is_positive (entry p.coefs k)) (count_from 0 (length p.coefs)) all

pub choice_step : (u : List Row) (p : Row) (o : Option ℕ) (k : ℕ) (ks : List ℕ) → choice u p o (k ∷ ks) ≡ choice u p (Some (better u p o k)) ks
choice_step u p None k ks = refl
choice_step u p (Some b) k ks = refl

listed_parts : (u : List Row) (p : Row) (o : Option ℕ) (k : ℕ) (ks : List ℕ)
    → all_fit (choice_listed u p o (k ∷ ks)) ≡ (all_fit (better_listed u p o k) && all_fit (choice_listed u p (Some (better u p o k)) ks))
listed_parts u p None k ks = refl
listed_parts u p (Some b) k ks = list_all-append fits (compared u p k b) (choice_listed u p (Some (better u p (Some b) k)) ks)

pub listed_step : (u : List Row) (p : Row) (o : Option ℕ) (k : ℕ) (ks : List ℕ) → IsTrue (all_fit (better_listed u p o k))
    → all_fit (choice_listed u p o (k ∷ ks)) ≡ all_fit (choice_listed u p (Some (better u p o k)) ks)
listed_step u p o k ks e = listed_parts u p o k ks ∙ ap (λ (t : Bool). t && all_fit (choice_listed u p (Some (better u p o k)) ks)) e

pub listed_refused : (u : List Row) (p : Row) (o : Option ℕ) (k : ℕ) (ks : List ℕ) → IsFalse (all_fit (better_listed u p o k))
    → all_fit (choice_listed u p o (k ∷ ks)) ≡ false
listed_refused u p o k ks e = listed_parts u p o k ks ∙ ap (λ (t : Bool). t && all_fit (choice_listed u p (Some (better u p o k)) ks)) e
