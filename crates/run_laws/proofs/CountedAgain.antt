-- A part of a run that was counted once gives the same from any other work of its budget, and counts as much, where there is room for that.
use Rattle.run_laws.proofs.Words.{◌≡◌, ◌∙◌, refl, sym, ap, subst, ℕ, ◌+◌, ◌-◌, ◌≤◌, arith, List, [], ◌∷◌, ◌++◌, Bool, true, false, nat_lt, nat_le, map, if◌then◌else◌, tighten, widen_to, opposite, all_fit, row_at, residue_of, rounding, Budget, Work, Refusal, Overflow, Outcome, Done, Refused, Counted, go_on, give, left, Setting, Node, scope, Class, turn, run_from, point, point_setting, root, class, enough_fuel, falls-constant_class, above}
use Rattle.std.specs.Prelude.{ℤ}
use Rattle.run_laws.proofs.Turns.{Leads, leads_all}
use Rattle.run_laws.proofs.Logics.{Any, Logic, all_told, turn_law, fuel_law, point_law, class_law}

-- so many pivots, cuts and splits are counted more
abbrev pub raised : Work → ℕ → ℕ → ℕ → Work
raised w p c s = record w { pivots = w.pivots + p; cuts = w.cuts + c; splits = w.splits + s }

-- so many have room in the budget
pub record HasRoom (w : Work) (p c s : ℕ) : Type 0 where
  pub pivots : w.pivots + p ≤ w.budget.pivots
  pub cuts : w.cuts + c ≤ w.budget.cuts
  pub splits : w.splits + s ≤ w.budget.splits

same_counts : (w : Work) (p q c d s t : ℕ) → p ≡ q → c ≡ d → s ≡ t → (record w { pivots = p; cuts = c; splits = s }) ≡ (record w { pivots = q; cuts = d; splits = t })
same_counts w p q c d s t e f g = rw (e, f, g) refl

raised_twice : (w : Work) (p c s q d t : ℕ) → raised (raised w p c s) q d t ≡ raised w (p + q) (c + d) (s + t)
raised_twice w p c s q d t = same_counts w _ _ _ _ _ _ (omega arith) (omega arith) (omega arith)

-- from w the value x came, after the work u, and from v it comes again, where there is room for as much
pub record IsAgain {A : Type 0} (w v u : Work) (x : A) (now : Outcome A) : Type 0 where
  pub pivots : ℕ
  pub cuts : ℕ
  pub splits : ℕ
  pub counted : u ≡ raised w pivots cuts splits
  pub again : HasRoom v pivots cuts splits → now ≡ Done x (raised v pivots cuts splits)

-- the same of what came from w, where it is a value, and has the property
abbrev pub OnAgain : {A : Type 0} → (A → Type 0) → Work → Work → Outcome A → Outcome A → Type 0
OnAgain Q w v (Done x u) again = IsAgain w v u x again × Q x
OnAgain Q w v (Refused e u) again = Unit {0}

pub record Repeats {A : Type 0} (Q : A → Type 0) (part : Counted A) : Type 0 where
  pub repeats : (w v : Work) → v.budget ≡ w.budget → OnAgain Q w v (part w) (part v)

-- ---- one part after another

joined : {A B : Type 0} (Q : B → Type 0) (w v u : Work) (x : A) (again : Outcome A) (f : A → Counted B) (h : IsAgain w v u x again) (o : Outcome B)
    → OnAgain Q u (raised v h.pivots h.cuts h.splits) o (f x (raised v h.pivots h.cuts h.splits)) → OnAgain Q w v o (go_on again f)
joined Q w v u x again f h (Refused e t) k = tt
joined Q w v u x again f h (Done y t) l =
    let k = l.0 in (
      record {
        pivots = h.pivots + k.pivots;
        cuts = h.cuts + k.cuts;
        splits = h.splits + k.splits;
        counted = k.counted ∙ ap (λ (z : Work). raised z k.pivots k.cuts k.splits) h.counted ∙ raised_twice w h.pivots h.cuts h.splits k.pivots k.cuts k.splits;
        again = λ room.
            ap (λ o. go_on o f) (h.again (record { pivots = omega (arith, room.pivots); cuts = omega (arith, room.cuts); splits = omega (arith, room.splits) }))
            ∙ k.again (record { pivots = omega (arith, room.pivots); cuts = omega (arith, room.cuts); splits = omega (arith, room.splits) })
            ∙ ap (λ z. Done y z) (raised_twice v h.pivots h.cuts h.splits k.pivots k.cuts k.splits);
      },
      l.1,
    )

next_again : {A B : Type 0} (Q : A → Type 0) (R : B → Type 0) (w v : Work) → v.budget ≡ w.budget → (o again : Outcome A) (f : A → Counted B) → OnAgain Q w v o again → ((x : A) → Q x → Repeats R (f x)) → OnAgain R w v (go_on o f) (go_on again f)
next_again Q R w v e (Done x u) again f l k =
    let h = l.0 in
    joined R w v u x again f h (f x u) ((k x l.1).repeats u (raised v h.pivots h.cuts h.splits) (e ∙ sym (ap (λ (z : Work). z.budget) h.counted)))
next_again Q R w v e (Refused r u) again f h k = tt

weaker : {A : Type 0} (Q R : A → Type 0) (w v : Work) (o again : Outcome A) → ((x : A) → Q x → R x) → OnAgain Q w v o again → OnAgain R w v o again
weaker Q R w v (Done x u) again f h = (h.0, f x h.1)
weaker Q R w v (Refused e u) again f h = tt

raised_none : (w : Work) → w ≡ raised w 0 0 0
raised_none w = same_counts w w.pivots (w.pivots + 0) w.cuts (w.cuts + 0) w.splits (w.splits + 0) (omega arith) (omega arith) (omega arith)

repeats-give : {A : Type 0} (Q : A → Type 0) (x : A) → Q x → Repeats Q (give x)
repeats-give Q x q = record { repeats = λ w v e. (record { pivots = 0; cuts = 0; splits = 0; counted = raised_none w; again = λ room. ap (λ z. Done x z) (raised_none v) }, q) }

-- ---- what is tested and counted

-- a test that holds at w holds at v where there is room for what is counted then
tested : (Q : Unit {0} → Type 0) (w v u x : Work) (p c s : ℕ) (at_w at_v : Bool) (e f : Refusal) → (at_w ≡ true → Q tt) → u ≡ raised w p c s → x ≡ raised v p c s → (at_w ≡ true → HasRoom v p c s → at_v ≡ true)
    → OnAgain Q w v (if at_w then Done tt u else Refused e w) (if at_v then Done tt x else Refused f v)
tested Q w v u x p c s true at_v e f q h k room = (record { pivots = p; cuts = c; splits = s; counted = h; again = λ r. rw (room refl r, k) refl }, q refl)
tested Q w v u x p c s false at_v e f q h k room = tt

-- what was counted once is counted again
abbrev repeating : Logic
repeating = record {
  Holds = λ Q part. Repeats Q part;
  MayNest = Unit {0};
  Room = λ n. Unit {0};
  bind = λ Q R part f h k. record { repeats = λ w v e. next_again Q R w v e (part w) (part v) f (h.repeats w v e) k };
  gives = λ Q x h. repeats-give Q x h;
  weakens = λ Q R part f h. record { repeats = λ w v e. weaker Q R w v (part w) (part v) f (h.repeats w v e) };
  lists = λ zs. record { repeats = λ w v e. tested (λ done. all_fit zs ≡ true) w v w v 0 0 0 (all_fit zs) (all_fit zs) Overflow Overflow (λ h. h) (raised_none w) (raised_none v) (λ h r. h) };
  pivots = record {
    repeats = λ w v e. tested Any w v (record w { pivots = w.pivots + 1 }) (record v { pivots = v.pivots + 1 }) 1 0 0 (nat_lt w.pivots w.budget.pivots) (nat_lt v.pivots v.budget.pivots) _ _ (λ h. tt)
        (same_counts w _ _ _ _ _ _ refl (omega arith) (omega arith)) (same_counts v _ _ _ _ _ _ refl (omega arith) (omega arith)) (λ h r. above v.pivots v.budget.pivots (omega (arith, r.pivots)));
  };
  cuts = record {
    repeats = λ w v e. tested Any w v (record w { cuts = w.cuts + 1 }) (record v { cuts = v.cuts + 1 }) 0 1 0 (nat_lt w.cuts w.budget.cuts) (nat_lt v.cuts v.budget.cuts) _ _ (λ h. tt)
        (same_counts w _ _ _ _ _ _ (omega arith) refl (omega arith)) (same_counts v _ _ _ _ _ _ (omega arith) refl (omega arith)) (λ h r. above v.cuts v.budget.cuts (omega (arith, r.cuts)));
  };
  splits = λ x. record {
    repeats = λ w v e. tested Any w v (record w { splits = w.splits + 1 }) (record v { splits = v.splits + 1 }) 0 0 1 (nat_lt w.splits w.budget.splits) (nat_lt v.splits v.budget.splits) _ _ (λ h. tt)
        (same_counts w _ _ _ _ _ _ (omega arith) (omega arith) refl) (same_counts v _ _ _ _ _ _ (omega arith) (omega arith) refl) (λ h r. above v.splits v.budget.splits (omega (arith, r.splits)));
  };
  nests = λ x n. record {
    repeats = λ w v e. tested Any w v w v 0 0 0 (nat_le n w.budget.nesting) (nat_le n v.budget.nesting) _ _ (λ h. tt) (raised_none w) (raised_none v) (λ h r. ap (λ (b : Budget). nat_le n b.nesting) e ∙ h);
  };
}

-- ---- points and classes

repeats-turn : (S : Setting) → ((K : List (List ℤ)) (w : ℕ) (t : List ℤ) → Repeats Any (S.class K w t)) → (N : Node) → Unit {0} → Repeats (Leads (λ M. Unit {0}) (λ M a. Unit {0}) N) (turn S N)
repeats-turn S class_repeats N u = record {
  repeats = λ w v e. weaker _ _ w v (turn S N w) (turn S N v) (λ t i. leads_all N t) ((turn_law repeating S N (λ t c. Unit {0}) (all_told repeating S N (λ t c. Unit {0}) (λ t. class_repeats N.context (scope S N) t) N.rows)
      (λ i q is l e. class_repeats N.context (scope S N) (rounding (scope S N) q (residue_of (row_at N.rows i)))) (λ r c l m. tt) (λ i is l e. tt)).repeats w v e);
}

-- the fuel of both runs together is enough for each
repeats-point : (w : ℕ) (K : List (List ℤ)) → Repeats Any (point w K)
repeats-point n K = point_law repeating n K Any Any (record { repeats = repeated }) (λ t h. tt) (λ e f. tt)
  where
    repeated : (w v : Work) → v.budget ≡ w.budget → OnAgain Any w v (run_from (point_setting n) (root n 0 (map (widen_to n) K) []) w) (run_from (point_setting n) (root n 0 (map (widen_to n) K) []) v)
    repeated w v e =
        let S = point_setting n in
        let N = root n 0 (map (widen_to n) K) [] in
        let fuel = left w + left v in
        let once = enough_fuel S falls-constant_class N fuel w (omega arith) in
        let twice = enough_fuel S falls-constant_class N fuel v (omega arith) in
        rw (once, twice) ((fuel_law repeating S (λ M. Unit {0}) (λ M a. Unit {0}) (λ M. tt) (repeats-turn S (λ L m t. repeats-give Any _ tt)) fuel N tt).repeats w v e)

repeats-class : (K : List (List ℤ)) (w : ℕ) (t : List ℤ) → Repeats Any (class K w t)
repeats-class K w t = let c = tighten t in class_law repeating w K c (λ d o. Unit {0}) Any (repeats-point w (K ++ c ∷ [])) (repeats-point w (K ++ opposite c ∷ [])) (λ o. tt) (λ o. tt) (λ p q h k. tt) (λ e. tt) (λ e. tt)

-- ---- in the words of what was counted

module _ {A : Type 0} (part : Counted A) (h : Repeats Any part) (w u v : Work) (x : A) where
  again_at : IsAgain w v u x (part v) → HasRoom v (u.pivots - w.pivots) (u.cuts - w.cuts) (u.splits - w.splits)
      → part v ≡ Done x (raised v (u.pivots - w.pivots) (u.cuts - w.cuts) (u.splits - w.splits))
  again_at k room =
      let pivots : u.pivots - w.pivots ≡ k.pivots = rw k.counted (omega arith) in
      let cuts : u.cuts - w.cuts ≡ k.cuts = rw k.counted (omega arith) in
      let splits : u.splits - w.splits ≡ k.splits = rw k.counted (omega arith) in
      rw (pivots, cuts, splits) (k.again (record {
        pivots = omega (arith, pivots, room.pivots);
        cuts = omega (arith, cuts, room.cuts);
        splits = omega (arith, splits, room.splits);
      }))

  -- the value comes again, and as much is counted
  pub counted-again : part w ≡ Done x u → v.budget ≡ w.budget → v.pivots + (u.pivots - w.pivots) ≤ v.budget.pivots → v.cuts + (u.cuts - w.cuts) ≤ v.budget.cuts → v.splits + (u.splits - w.splits) ≤ v.budget.splits
      → part v ≡ Done x (raised v (u.pivots - w.pivots) (u.cuts - w.cuts) (u.splits - w.splits))
  counted-again is e pivots cuts splits = again_at (subst (λ o. OnAgain Any w v o (part v)) is (h.repeats w v e)).0 (record { pivots = pivots; cuts = cuts; splits = splits })

-- a class that was found once is found again, with as many counts
pub class-again : (K : List (List ℤ)) (n : ℕ) (t : List ℤ) (c : Class) (w u v : Work) → class K n t w ≡ Done c u → v.budget ≡ w.budget
    → v.pivots + (u.pivots - w.pivots) ≤ v.budget.pivots → v.cuts + (u.cuts - w.cuts) ≤ v.budget.cuts → v.splits + (u.splits - w.splits) ≤ v.budget.splits
    → class K n t v ≡ Done c (raised v (u.pivots - w.pivots) (u.cuts - w.cuts) (u.splits - w.splits))
class-again K n t c w u v = counted-again (class K n t) (repeats-class K n t) w u v c
