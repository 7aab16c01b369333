-- A command that the words give may be asked for.
use Rattle.pip_cli.proofs.Words.{◌≡◌, refl, arith, ℕ, ◌-◌, ◌^◌, ◌≤◌, List, [], ◌∷◌, Option, Some, None, Bool, true, false, ◌&&◌, ◌==◌, not, nat_le, length, IfSome, MatchBool, if◌then◌else◌, codes, list_all, most_params, most_pivots, most_cuts, most_splits, most_nesting, Budget, IsBudget, standard_budget, Command, Eval, Simplify, Pieces, Restrict, Same, Least, MayBeAsked, IsWithin}
use Rattle.std.proofs.lemmas.Bool.{leb-true}
use Rattle.std.specs.Str.{bytes_eq}
use Rattle.std.specs.Option.{option_map}
use Rattle.clap.specs.Words.{Row, Text, fault_of, subcommand_of, first_of, all_of}
use Rattle.pip_model.specs.Tokens.{is_digit, natural_of}
use Rattle.pip_words.specs.Numbers.{number_of, most_drawn}
use Rattle.pip_words.specs.Words.{pip_app, Spelling, spellings, named_in, counted_of, walked_of, command_of, command_in, solve_of, solve_with, eval_of, flag_of, budget_of, walk_of, limit_of, number_or, needed_of, trial_of, is_accepted, parameters_of, texts_of, ◌>>=◌}

-- over each input within its limit
abbrev pub IsAsked : Command → Type 0
IsAsked c = (bytes : List ℕ) → IsWithin c bytes → MayBeAsked c bytes

chosen : (b : Bool) (x y : Option Command) → IfSome x IsAsked → IfSome y IsAsked → IfSome (if b then x else y) IsAsked
chosen true x y h k = h
chosen false x y h k = k

-- a step, and what follows of what it gives
bound : {A B : Type 0} (P : A → Type 0) (Q : B → Type 0) (a : Option A) (f : A → Option B) → IfSome a P → ((x : A) → P x → IfSome (f x) Q) → IfSome (a >>= f) Q
bound P Q None f h k = tt
bound P Q (Some x) f h k = k x h

mapped : {A B : Type 0} (P : A → Type 0) (Q : B → Type 0) (f : A → B) (a : Option A) → IfSome a P → ((x : A) → P x → Q (f x)) → IfSome (option_map f a) Q
mapped P Q f None h k = tt
mapped P Q f (Some x) h k = k x h

any : {A : Type 0} (a : Option A) → IfSome a (λ x. Unit {0})
any None = tt
any (Some x) = tt

number_within : (most : ℕ) (text : List ℕ) → IfSome (number_of most text) (λ n. n ≤ most)
number_within most text = go (not (length text == 0)) (list_all is_digit text) (nat_le (natural_of text) most) (leb-true (natural_of text) most)
  where
    go : (a b t : Bool) → (t ≡ true → natural_of text ≤ most) → IfSome (if a && (b && t) then Some (natural_of text) else None) (λ n. n ≤ most)
    go true true true h = h refl
    go true true false h = tt
    go true false t h = tt
    go false b t h = tt

limit_within : (most default : ℕ) (text : Option Text) → default ≤ most → IfSome (number_or most default text) (λ n. n ≤ most)
limit_within most default None h = h
limit_within most default (Some text) h = number_within most text

budget_within : (rows : List Row) → IfSome (budget_of rows) IsBudget
budget_within rows =
    bound (λ n. n ≤ most_pivots) IsBudget (limit_of (codes "pivots") most_pivots standard_budget.pivots rows) _ (limit_within most_pivots standard_budget.pivots (first_of (codes "pivots") rows) (omega arith)) (λ p h.
    bound (λ n. n ≤ most_cuts) IsBudget (limit_of (codes "cuts") most_cuts standard_budget.cuts rows) _ (limit_within most_cuts standard_budget.cuts (first_of (codes "cuts") rows) (omega arith)) (λ c k.
    bound (λ n. n ≤ most_splits) IsBudget (limit_of (codes "splits") most_splits standard_budget.splits rows) _ (limit_within most_splits standard_budget.splits (first_of (codes "splits") rows) (omega arith)) (λ s l.
    bound (λ n. n ≤ most_nesting) IsBudget (limit_of (codes "nesting") most_nesting standard_budget.nesting rows) _ (limit_within most_nesting standard_budget.nesting (first_of (codes "nesting") rows) (omega arith)) (λ n o.
    record { pivots = h; cuts = k; splits = l; nesting = o }))))

-- a budget within its limits, with certificates or without
solving_asked : (certificate : Bool) (b : Budget) → IsBudget b → MatchBool certificate (IsBudget b) (b.nesting ≤ most_nesting)
solving_asked true b h = h
solving_asked false b h = h.nesting

solve_asked : (rows : List Row) → IfSome (solve_of rows) IsAsked
solve_asked rows =
    chosen (flag_of (codes "simplify") rows && flag_of (codes "certificate") rows) _ _ tt
    (mapped IsBudget IsAsked (solve_with rows) (budget_of rows) (budget_within rows) (λ b h bytes within. solving_asked (flag_of (codes "certificate") rows) b h))

eval_asked : (rows : List Row) → IfSome (eval_of rows) IsAsked
eval_asked rows =
    let u = parameters_of (texts_of (all_of (codes "parameter") rows)) in
    mapped (λ x. Unit {0}) IsAsked Eval u (any u) (λ x v bytes within. tt)

needed_within : (most : ℕ) (text : Option Text) → IfSome (text >>= number_of most) (λ n. n ≤ most)
needed_within most text = bound (λ x. Unit {0}) (λ n. n ≤ most) text (number_of most) (any text) (λ x u. number_within most x)

counted_asked : (command : ℕ → Command) → ((m : ℕ) → m ≤ most_params → IsAsked (command m)) → (rows : List Row) → IfSome (counted_of command rows) IsAsked
counted_asked command f rows =
    mapped (λ n. n ≤ most_params) IsAsked command (needed_of (codes "parameters") most_params rows) (needed_within most_params (first_of (codes "parameters") rows)) f

trial_asked : (rows : List Row) → IfSome (trial_of rows) IsAsked
trial_asked rows =
    bound (λ x. Unit {0}) IsAsked (needed_of (codes "seed") (2 ^ 64 - 1) rows) _ (any _) (λ seed u.
    bound (λ x. Unit {0}) IsAsked (needed_of (codes "count") most_drawn rows) _ (any _) (λ count v bytes within. tt))

-- a walk of few parameters, with a budget of nesting within its limit
abbrev IsWalk : ℕ × Budget → Type 0
IsWalk w = (w.0 ≤ most_params) × (w.1.nesting ≤ most_nesting)

walk_within : (rows : List Row) → IfSome (walk_of rows) IsWalk
walk_within rows =
    bound (λ n. n ≤ most_params) IsWalk (needed_of (codes "parameters") most_params rows) _ (needed_within most_params (first_of (codes "parameters") rows)) (λ n h.
    bound IsBudget IsWalk (budget_of rows) _ (budget_within rows) (λ b k. (h, k.nesting)))

walked_asked : (command : ℕ → Budget → Command) → ((m : ℕ) (b : Budget) → IsWalk (m, b) → IsAsked (command m b)) → (rows : List Row) → IfSome (walked_of command rows) IsAsked
walked_asked command f rows = mapped IsWalk IsAsked (λ x. command x.0 x.1) (walk_of rows) (walk_within rows) (λ w. f w.0 w.1)

-- ---- of each command

-- what such words give may be asked for
infixr 5 ◌also◌
data AreAsked : List Spelling → Type 0 where
  none : AreAsked []
  ◌also◌ : {s : Spelling} {ss : List Spelling} → ((rows : List Row) → IfSome (s.given rows) IsAsked) → AreAsked ss → AreAsked (s ∷ ss)

spellings_asked : AreAsked spellings
spellings_asked =
    solve_asked
    also eval_asked
    also counted_asked Simplify (λ m h bytes within. h)
    also (λ rows bytes within. tt)
    also (λ rows bytes within. within tt)
    also trial_asked
    also counted_asked Pieces (λ m h bytes within. h)
    also walked_asked Restrict (λ m b h bytes within. h.0)
    also walked_asked Same (λ m b h bytes within. h.0)
    also walked_asked Least (λ m b h bytes within. h)
    also none

named_asked : (name : Text) (rows : List Row) (ss : List Spelling) → AreAsked ss → IfSome (named_in name rows ss) IsAsked
named_asked name rows [] none = tt
named_asked name rows (s ∷ ss) (asked also others) = chosen (bytes_eq name s.name) _ _ (asked rows) (named_asked name rows ss others)

in_asked : (found : Option (Text × List Row)) → IfSome (command_in found) IsAsked
in_asked None = tt
in_asked (Some found) = named_asked found.0 found.1 spellings spellings_asked

pub command-asked : (words : List Text) → IfSome (command_of words) IsAsked
command-asked words = chosen (is_accepted (fault_of pip_app words)) _ _ (in_asked (subcommand_of pip_app words)) tt
