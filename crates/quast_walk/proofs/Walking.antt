-- The steps of a walk, from what the calls at a node answered: a part that stops a walk stops it.
use Rattle.quast_walk.proofs.Words.{◌≡◌, ap, refl, sym, ℕ, ◌+◌, List, ℤ, class, Tree, If, NewParm, make, spread, spread_tree, walk, visit_of, IsTrue, IsFalse, length, pos, nesting, IsTreeAt, rules, Option, Some, None, IfSome, all_fit, Quotient, Work, listed, ToolRefusal, Walked, Stopped, Walking, walk_on, by_run, is_form_overflow, tool_fault, of_form}
use Rattle.affine_forms.specs.declared.memory.FormRefusal.{FormRefusal}
use Rattle.affine_forms.specs.declared.memory.FormRefusal.TheVariants as refused
use Rattle.std.specs.Prelude.{◌≤ℤ◌}
use Rattle.affine_forms.specs.Checks.{Fits}
use Rattle.pip_model.specs.Run.{Plus, Minus, Unknown}
use Rattle.pip_model.specs.Walks.{Walker, Made, below}
use Rattle.quast_walk.specs.Readings.{HasRoom, AreBranches}
use Rattle.quast_walk.specs.Visits.{both_trees, below_then, IsBelow}
use Rattle.sign_split.specs.Scoped.{ScopedForms, IsKeptContext}
use Rattle.quast_walk.specs.declared.refusal.ToolRefusal as code

-- a part that stops a walk
pub stops : {A B : Type 0} (o : Option ToolRefusal) (part : Walked A) (rest : A → Walking B) (now : Work) → IfSome o (λ f. part ≡ Stopped f now) → IfSome o (λ f. walk_on part rest ≡ Stopped f now)
stops None part rest now h = h
stops (Some f) part rest now h = ap (λ x. walk_on x rest) h

-- a calculation that was refused
pub unfit_stops : {X : Type 0} (zs : List ℤ) (rest : Unit {0} → Walking X) (w : Work) (r : FormRefusal) (e : code.ToolRefusal) → e ≡ of_form r → (IsTrue (is_form_overflow r) → IsFalse (all_fit zs)) → IfSome (tool_fault e) (λ f. walk_on (by_run (listed zs) w) rest ≡ Stopped f w)
unfit_stops zs rest w refused.Overflow e same unfit = rw (same, unfit refl)
unfit_stops zs rest w refused.WantOfMemory e same unfit = rw same tt

-- a new parameter
abbrev pub quotient : List ℤ → ℤ → Quotient
quotient v d = record { form = v; den = d }

-- ---- at a node that chooses, whose form is read as f, in the context k, which is k1 once the form's class is known

-- its trees can be walked
pub can_choose : (m n leaf depth : ℕ) (k k1 : ScopedForms) (t : Tree) (v : List ℤ) (a b : Tree) → IsKeptContext k k1 → t ≡ If v a b → IsTreeAt m n k.width t → HasRoom leaf depth (nesting t) k → AreBranches m n leaf depth k1 a b
can_choose m n leaf depth k k1 t v a b kept node at room = search (rules, rw node at at.scoped, rw node at at.numbers, at.few, rw node at room.spare, rw node at room.shallow, kept.width, kept.spare)

module _ {X : Type 0} (W : Walker X) (k k1 : ScopedForms) (depth m n : ℕ) (t : Tree) (v f : List ℤ) (a b : Tree) (w w1 : Work) (kept : IsKeptContext k k1) (node : t ≡ If v a b) (form : f ≡ spread m n v) where
  pub sign_stops : (o : Option ToolRefusal) → IfSome o (λ e. by_run (class k.forms k.width f) w ≡ Stopped e w1) → IfSome o (λ e. walk W (visit_of k depth) (spread_tree m n t) w ≡ Stopped e w1)
  sign_stops None sign = tt
  sign_stops (Some e) sign = rw (node, ← form, sign)

  pub first_walked : by_run (class k.forms k.width f) w ≡ Made Plus w1 → walk W (visit_of k1 depth) (spread_tree m n a) w1 ≡ walk W (visit_of k depth) (spread_tree m n t) w
  first_walked sign = rw (node, ← form, sign, kept.width, kept.forms)

  pub second_walked : by_run (class k.forms k.width f) w ≡ Made Minus w1 → walk W (visit_of k1 depth) (spread_tree m n b) w1 ≡ walk W (visit_of k depth) (spread_tree m n t) w
  second_walked sign = rw (node, ← form, sign, kept.width, kept.forms)

  pub both_walked : (c : List ℤ) → by_run (class k.forms k.width f) w ≡ Made (Unknown c) w1 → both_trees W (visit_of k1 depth) f (spread_tree m n a) (spread_tree m n b) c w1 ≡ walk W (visit_of k depth) (spread_tree m n t) w
  both_walked c sign = rw (node, ← form, sign, kept.width, kept.forms)

-- ---- at a new parameter, whose divisor is known as e

-- it can be gone under
pub under_needs : (m n w : ℕ) (t : Tree) (v f : List ℤ) (d e : ℤ) (a : Tree) → t ≡ NewParm v d a → f ≡ spread m n v → e ≡ d → IsTreeAt m n w t → (length f ≡ w + 1) × (pos 1 ≤ℤ e) × Fits e
under_needs m n w t v f d e a node form den at = rw (form, den) (search (rules, rw node at at.scoped, rw node at at.numbers))

module _ {X : Type 0} (W : Walker X) (k : ScopedForms) (depth m n : ℕ) (t : Tree) (v f : List ℤ) (d e : ℤ) (a : Tree) (w w1 : Work) (node : t ≡ NewParm v d a) (form : f ≡ spread m n v) (den : e ≡ d) where
  abbrev next : Walking X
  next w = walk_on (walk W (below (visit_of k depth) (quotient f e)) (spread_tree m n a) w) (λ x. make (W.defined f e x))

  pub under_stops : (o : Option ToolRefusal) → ((next : Walking X) → IfSome o (λ r. below_then W (visit_of k depth) (quotient f e) next w ≡ Stopped r w1)) → IfSome o (λ r. walk W (visit_of k depth) (spread_tree m n t) w ≡ Stopped r w1)
  under_stops None under = tt
  under_stops (Some r) under = rw (node, ← form, ← den) (under next)

  pub under_walked : (k1 : ScopedForms) → IsBelow k (quotient f e) k1 → ((next : Walking X) → below_then W (visit_of k depth) (quotient f e) next w ≡ next w1) → walk_on (walk W (visit_of k1 (depth + 1)) (spread_tree m n a) w1) (λ x. make (W.defined f e x)) ≡ walk W (visit_of k depth) (spread_tree m n t) w
  under_walked k1 is under = rw (node, ← form, ← den, is.width, is.forms) (sym (under next))
