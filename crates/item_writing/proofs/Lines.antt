-- The line of an ending is written in parts.
use Rattle.std.proofs.Common.{◌≡◌, subst, sym, ap, ◌∙◌, ℕ, ◌<◌, ◌-◌, List, [], ◌∷◌, ◌++◌, take, drop, get_or, length, Option, Some, None, false, ◌==◌, refl, arith, length-append}
use Rattle.std.proofs.lemmas.Bool.Decides.{nat_tests}
use Rattle.std.proofs.lemmas.List.{take_all}
use Rattle.std.specs.Prelude.{codes, decimal, Result}
use Rattle.std.specs.Fmt.{signed_decimal}
use Rattle.pip_outside.specs.Bytes.{WritesBytes}
use Rattle.program_model.specs.Endings.{Ending, notes_of, spot_text}
use Rattle.certificate_check.specs.Faults.{spot_of}
use Rattle.item_writing.specs.Lines.{part_text, parts_text, line_of, ending_told}
use Rattle.item_writing.specs.LineWords.{words_of}
use Rattle.item_writing.specs.declared.line.Told.{Told}
use Rattle.item_writing.specs.declared.line.Line.{Line}
use Rattle.item_writing.specs.declared.line.Line.TheVariants as line
use Rattle.item_writing.specs.declared.line.Part.{Part}

-- the first part, and the others
pub parts_split : (ps : List Part) (d : Part) → 0 < length ps → parts_text ps ≡ part_text (get_or ps 0 d) ++ parts_text (take (length ps - 1) (drop 1 ps))
parts_split [] d h = absurd (omega (arith, h))
parts_split (p ∷ ps) d h = ap (λ xs. part_text p ++ parts_text xs) (sym (take_all (length (p ∷ ps) - 1) ps (omega arith)))

-- the line where there is one
line_noted : (e : Ending) → 0 < length e.line → codes "pip: " ++ e.line ++ codes "\n" ≡ notes_of e
line_noted e h =
    let some : (length e.line == 0) ≡ false = grind (arith, nat_tests) in
    rw some refl

-- a line has some bytes where its words have
line_some : (l : Line) → 0 < length (words_of l) → 0 < length (line_of l)
line_some (line.Words words None) h = h
line_some (line.Words words (Some z)) h = omega (arith, h, length-append words.now (signed_decimal z))
line_some (line.Place words s) h = omega (arith, h, length-append words.now (spot_text (spot_of s)))
line_some (line.Lengths a b) h = omega (arith, length-append (codes "lists of ") (decimal a ++ codes " and " ++ decimal b ++ codes " components"))

-- what was written is the line of what is told
pub line_written : {K E : Type 0} (written : K → Option (List ℕ)) (count : K → ℕ) (a b : K) (r : Result (Unit {0}) E) (t : Told) (l : Line) (text : List ℕ)
    → t.line ≡ l → WritesBytes written count a b r text → text ≡ codes "pip: " ++ line_of l ++ codes "\n" → WritesBytes written count a b r (notes_of (ending_told t))
line_written written count a b r t l text is h same =
    subst (WritesBytes written count a b r) (same ∙ ap (λ (x : Line). codes "pip: " ++ line_of x ++ codes "\n") (sym is) ∙ line_noted (ending_told t) (line_some t.line t.some)) h
