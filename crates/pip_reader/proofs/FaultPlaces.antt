-- The place of a fault of a native text lies within the bytes, or at their end, and none is for an option word.
use Rattle.pip_reader.proofs.Words.{◌≡◌, refl, ℕ, zero, suc, ◌+◌, ◌-◌, ◌≤◌, ℤ, pos, arith, List, length, length-drop, Bool, true, false, ◌&&◌, ◌==◌, Result, Ok, Err, Option, Some, None, IfOk, IfErr, if◌then◌else◌, int_le, unsigned_abs, LeftParen, RightParen, LeftRow, RightRow, Number, WideNumber, Unknowns, Parameters, Rows, ContextRows, most_unknowns, most_params, most_rows, most_context_rows, token, IsGroup, Fault, Syntax, Wide, Limit, BigParameter, OptionWord, ◌>>=◌, same_bracket, expect, number, number_of, numbers, row, rows, block, closing, group, group_to, within, next_open, item_at, problem_at, read_native, next_open-first, row-reads, AreRows, rows-reads, block-reads, InRange, within-reads, big-reads, group-reads}
use Rattle.std.specs.Prelude.{drop}
use Rattle.pip_model.specs.declared.Kind.{Kind}
use Rattle.pip_model.specs.declared.LimitKind.{LimitKind}
use Rattle.text_laws.proofs.Places.{token-lies}
use Rattle.text_laws.proofs.ReadPlaces.{Between, Read, Opens, expect-opens, expect-reads, number-reads, Fitting, Numbers, numbers-reads, any}

-- a place that the fault tells is at most n, and it is for no option word
abbrev pub FaultWithin : ℕ → Fault → Type 0
FaultWithin n (Syntax place) = place ≤ n
FaultWithin n (Wide place) = place ≤ n
FaultWithin n (OptionWord word) = ⊥
FaultWithin n e = Unit {0}

choose : {A : Type 0} (n : ℕ) (b : Bool) (x : A) (e : Fault) → FaultWithin n e → IfErr {T = A} (if b then Ok x else Err e) (FaultWithin n)
choose n true x e h = tt
choose n false x e h = h

-- a step fails in its first part, or, from what that gives, in its second
then-err : {A B : Type 0} (n : ℕ) (r : Result A Fault) (f : A → Result B Fault) (P : A → Type 0) → IfErr r (FaultWithin n) → IfOk r P → ((x : A) → P x → IfErr (f x) (FaultWithin n)) → IfErr (r >>= f) (FaultWithin n)
then-err n (Ok x) f P g h each = each x h
then-err n (Err e) f P g h each = g

expect-fault : (bytes : List ℕ) (kind : Kind) (place : ℕ) → place ≤ length bytes → IfErr (expect bytes kind place) (FaultWithin (length bytes))
expect-fault bytes kind place h =
    choose (length bytes) (same_bracket (token bytes place).kind kind) (token bytes place).after (Syntax (token bytes place).start) (token-lies bytes place h).start_high

number-fault : (bytes : List ℕ) (place : ℕ) → place ≤ length bytes → IfErr (number bytes place) (FaultWithin (length bytes))
number-fault bytes place h = by_kind (token bytes place).kind
  where
    by_kind : (k : Kind) → IfErr (number_of k (token bytes place).start (token bytes place).after) (FaultWithin (length bytes))
    by_kind (Number z) = tt
    by_kind WideNumber = (token-lies bytes place h).start_high
    by_kind _ = (token-lies bytes place h).start_high

numbers-fault : (bytes : List ℕ) (n place : ℕ) → place ≤ length bytes → IfErr (numbers bytes n place) (FaultWithin (length bytes))
numbers-fault bytes zero place h = tt
numbers-fault bytes (suc n) place h =
    then-err _ _ _ (Read bytes place Fitting) (number-fault bytes place h) (number-reads bytes place h) (λ z p.
    then-err _ _ _ (Read bytes z.1 (Numbers n)) (numbers-fault bytes n z.1 p.between.high) (numbers-reads bytes n z.1 p.between.high) (λ zs q.
    tt))

row-fault : (bytes : List ℕ) (n place : ℕ) → place ≤ length bytes → IfErr (row bytes n place) (FaultWithin (length bytes))
row-fault bytes n place h =
    then-err _ _ _ (Between bytes place) (expect-fault bytes LeftRow place h) (expect-reads bytes LeftRow place h) (λ first p.
    then-err _ _ _ (Read bytes first (Numbers n)) (numbers-fault bytes n first p.high) (numbers-reads bytes n first p.high) (λ zs q.
    then-err _ _ _ (Between bytes zs.1) (expect-fault bytes RightRow zs.1 q.between.high) (expect-reads bytes RightRow zs.1 q.between.high) (λ after r.
    tt)))

rows-fault : (bytes : List ℕ) (count n place : ℕ) → place ≤ length bytes → IfErr (rows bytes count n place) (FaultWithin (length bytes))
rows-fault bytes zero n place h = tt
rows-fault bytes (suc count) n place h =
    then-err _ _ _ (Read bytes place (Numbers n)) (row-fault bytes n place h) (row-reads bytes n place h) (λ r p.
    then-err _ _ _ (Read bytes r.1 (AreRows count n)) (rows-fault bytes count n r.1 p.between.high) (rows-reads bytes count n r.1 p.between.high) (λ rs q.
    tt))

block-fault : (bytes : List ℕ) (count n place : ℕ) → place ≤ length bytes → IfErr (block bytes count n place) (FaultWithin (length bytes))
block-fault bytes count n place h =
    then-err _ _ _ (Between bytes place) (expect-fault bytes LeftParen place h) (expect-reads bytes LeftParen place h) (λ first p.
    then-err _ _ _ (Read bytes first (AreRows count n)) (rows-fault bytes count n first p.high) (rows-reads bytes count n first p.high) (λ rs q.
    then-err _ _ _ (Between bytes rs.1) (expect-fault bytes RightParen rs.1 q.between.high) (expect-reads bytes RightParen rs.1 q.between.high) (λ after r.
    tt)))

group-fault : (bytes : List ℕ) (place : ℕ) → place ≤ length bytes → IfErr (group bytes place) (FaultWithin (length bytes))
group-fault bytes place h =
    then-err _ _ _ (Opens bytes place) (expect-fault bytes LeftParen place h) (expect-opens bytes place h) (λ first p.
    closed first (closing 1 first (drop first bytes)))
  where
    closed : (first : ℕ) (o : Option ℕ) → IfErr (group_to bytes (first - 1) o) (FaultWithin (length bytes))
    closed first None = omega arith
    closed first (Some after) = tt

within-fault : (kind : LimitKind) (low high n : ℕ) (z : ℤ × ℕ) → IfErr (within kind low high z) (FaultWithin n)
within-fault kind low high n z = choose n (int_le (pos low) z.0 && int_le z.0 (pos high)) (unsigned_abs z.0, z.1) (Limit kind z.0) tt

pub problem_at-fault : (bytes : List ℕ) (place : ℕ) → place ≤ length bytes → IfErr (problem_at bytes place) (FaultWithin (length bytes))
problem_at-fault bytes place h =
    then-err _ _ _ (Opens bytes place) (expect-fault bytes LeftParen place h) (expect-opens bytes place h) (λ first p1.
    then-err _ _ _ (Read bytes first IsGroup) (group-fault bytes first p1.high) (group-reads bytes first p1.high) (λ comment p2.
    then-err _ _ _ (Read bytes comment.1 Fitting) (number-fault bytes comment.1 p2.between.high) (number-reads bytes comment.1 p2.between.high) (λ n1 p3.
    then-err _ _ _ (InRange 1 most_unknowns n1.1) (within-fault Unknowns 1 most_unknowns _ n1) (within-reads Unknowns 1 most_unknowns n1) (λ unknowns p4.
    let at4 : unknowns.1 ≤ length bytes = omega (arith, p3.between.high, p4.2) in
    then-err _ _ _ (Read bytes unknowns.1 Fitting) (number-fault bytes unknowns.1 at4) (number-reads bytes unknowns.1 at4) (λ m p5.
    then-err _ _ _ (InRange 0 most_params m.1) (within-fault Parameters 0 most_params _ m) (within-reads Parameters 0 most_params m) (λ params p6.
    let at6 : params.1 ≤ length bytes = omega (arith, p5.between.high, p6.2) in
    then-err _ _ _ (Read bytes params.1 Fitting) (number-fault bytes params.1 at6) (number-reads bytes params.1 at6) (λ l p7.
    then-err _ _ _ (InRange 0 most_rows l.1) (within-fault Rows 0 most_rows _ l) (within-reads Rows 0 most_rows l) (λ row_count p8.
    let at8 : row_count.1 ≤ length bytes = omega (arith, p7.between.high, p8.2) in
    then-err _ _ _ (Read bytes row_count.1 Fitting) (number-fault bytes row_count.1 at8) (number-reads bytes row_count.1 at8) (λ k p9.
    then-err _ _ _ (InRange 0 most_context_rows k.1) (within-fault ContextRows 0 most_context_rows _ k) (within-reads ContextRows 0 most_context_rows k) (λ context_count p10.
    let at10 : context_count.1 ≤ length bytes = omega (arith, p9.between.high, p10.2) in
    then-err _ _ _ (Read bytes context_count.1 Fitting) (number-fault bytes context_count.1 at10) (number-reads bytes context_count.1 at10) (λ big p11.
    then-err _ _ _ (λ p. p ≡ big.1) (choose _ (int_le big.0 (pos 0) && (unsigned_abs big.0 == 1)) big.1 (BigParameter big.0) tt) (big-reads big) (λ flag p12.
    let at12 : flag ≤ length bytes = omega (arith, p11.between.high, p12) in
    then-err _ _ _ (Read bytes flag Fitting) (number-fault bytes flag at12) (number-reads bytes flag at12) (λ integer p13.
    then-err _ _ _ (Read bytes integer.1 (AreRows row_count.0 (unknowns.0 + 1 + params.0))) (block-fault bytes row_count.0 (unknowns.0 + 1 + params.0) integer.1 p13.between.high) (block-reads bytes row_count.0 (unknowns.0 + 1 + params.0) integer.1 p13.between.high) (λ tableau p14.
    then-err _ _ _ (Read bytes tableau.1 (AreRows context_count.0 (params.0 + 1))) (block-fault bytes context_count.0 (params.0 + 1) tableau.1 p14.between.high) (block-reads bytes context_count.0 (params.0 + 1) tableau.1 p14.between.high) (λ context p15.
    then-err _ _ _ (Between bytes context.1) (expect-fault bytes RightParen context.1 p15.between.high) (expect-reads bytes RightParen context.1 p15.between.high) (λ after p16.
    tt))))))))))))))))

pub read_native-fault : (bytes : List ℕ) (start : ℕ) → start ≤ length bytes → IfErr (read_native bytes start) (FaultWithin (length bytes))
read_native-fault bytes start h = by_open (next_open start (drop start bytes)) refl
  where
    by_open : (o : Option ℕ) → next_open start (drop start bytes) ≡ o → IfErr (item_at (problem_at bytes) o) (FaultWithin (length bytes))
    by_open None is = tt
    by_open (Some place) is =
        let f = next_open-first start place (drop start bytes) is in
        let low : place ≤ length bytes = omega (arith, f.high, length-drop start bytes, h) in
        then-err _ _ _ (λ x. Unit {0}) (problem_at-fault bytes place low) (any (problem_at bytes place)) (λ x p. tt)
