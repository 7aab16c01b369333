-- The text that `solve` makes of a problem with certificates is that of a right answer and of a certificate that the check does not reject.
use Rattle.headline.proofs.Words.{◌≡◌, refl, ap, sym, subst, ◌∙◌, arith, ℕ, ◌+◌, ◌-◌, length, length-append, Bool, true, false, Option, Some, None, List, [], ◌++◌, append_assoc, drop, Ok, Err, codes, IsTrue, if◌then◌else◌, Problem, Answer, certificate_fits, newline, spell_answer, spell, read_answer, Certificate, spell_certificate, read_certificate, ◌>>◌, Budget, IsBudget, Work, Outcome, Done, Refused, rational_certificate, certified_answer_text, certified_outcome, certified_text, IsCertified, solve-right, leaves-reached, solve-printable, read_answer-spell_first, read_certificate-spell, Whole, certificate-fits, certified-answer, certificate-not_rejected, append-nil}
use Rattle.pip_model.specs.Made.{solve_with_certificate}
use Rattle.std.proofs.Math.Seq.{drop-append_seam}

-- ---- the text of an answer and its certificate

-- behind the answer's last byte but one stands a newline, and then the certificate
after_answer : (front rest : List ℕ) → drop (length (front ++ codes ")\n") - 1) ((front ++ codes ")\n") ++ rest) ≡ codes "\n" ++ rest
after_answer front rest =
    let one : length (front ++ codes ")\n") - 1 ≡ length (front ++ codes ")") = omega (arith, length-append front (codes ")\n"), length-append front (codes ")")) in
    let split : (front ++ codes ")\n") ++ rest ≡ (front ++ codes ")") ++ (codes "\n" ++ rest) = append_assoc front (codes ")\n") rest ∙ sym (append_assoc front (codes ")") (codes "\n" ++ rest)) in
    ap (λ (n : ℕ). drop n ((front ++ codes ")\n") ++ rest)) one ∙ ap (drop (length (front ++ codes ")"))) split ∙ drop-append_seam (front ++ codes ")") (codes "\n" ++ rest)

certificate_back : (front : List ℕ) (c : Certificate) (t : List ℕ) → t ≡ (front ++ codes ")\n") ++ spell_certificate c → IsTrue (certificate_fits c) → read_certificate t (length (front ++ codes ")\n") - 1) ≡ Ok (Some (c, length t - 1))
certificate_back front c t is fits =
    let start = length (front ++ codes ")\n") - 1 in
    let append_nil : spell_certificate c ≡ spell_certificate c ++ [] = sym (append-nil (spell_certificate c)) in
    let at : drop start t ≡ codes "\n" ++ (spell_certificate c ++ []) = ap (drop start) is ∙ after_answer front (spell_certificate c) ∙ ap (λ (x : List ℕ). codes "\n" ++ x) append_nil in
    let place : start + length (codes "\n") + length (spell_certificate c) - 1 ≡ length t - 1 = omega (arith, ap length is, length-append (front ++ codes ")\n") (spell_certificate c), length-append front (codes ")\n")) in
    read_certificate-spell t start (codes "\n") c [] at refl fits ∙ ap (λ (n : ℕ). Ok (Some (c, n))) place

module _ (b : Budget) (budget : IsBudget b) where
  of_certificate : (P : Problem) → Whole P → P.integer ≡ true → (a : Answer) (c : Option Certificate) (w : Work) → solve_with_certificate b P ≡ Done (a, c) w → (t : List ℕ) → certified_answer_text P a c ≡ Ok t → IsCertified P t
  of_certificate P whole integer a None w e t h = cc
  of_certificate P whole integer a (Some c) w e t h =
      let text : spell P.comment a ++ spell_certificate c ≡ t = cc in
      let solved = certified-answer P b a (Some c) w e in
      let printable = solve-printable P b a solved.0 whole.0 budget.nesting solved.1 in
      record {
        answer = a;
        certificate = c;
        text = sym text;
        integer = integer;
        right = solve-right P b a solved.0 whole.0 solved.1;
        reached = leaves-reached P b a solved.0 whole.0 solved.1;
        answer_back = subst (λ (s : List ℕ). read_answer s 0 P.params ≡ Ok (Some (record { comment = P.comment; answer = a }, length (spell P.comment a) - 1))) text (read_answer-spell_first P.params P.comment a (spell_certificate c) whole.1 printable);
        certificate_back = certificate_back (codes "(" ++ P.comment ++ newline ++ spell_answer a) c t (sym text) (certificate-fits P b a c w whole.0 integer budget e);
        not_rejected = certificate-not_rejected P b a c w whole.0 integer e;
      }

  -- the text of a problem is certified
  pub certified_text-right : (P : Problem) → Whole P → (t : List ℕ) → certified_text b P ≡ Ok t → IsCertified P t
  certified_text-right P whole t h = at_mode P.integer refl h
    where
      at_outcome : P.integer ≡ true → (r : Outcome (Answer × Option Certificate)) → solve_with_certificate b P ≡ r → certified_outcome P r ≡ Ok t → IsCertified P t
      at_outcome i (Done x w) e h = of_certificate P whole i x.0 x.1 w e t h
      at_outcome i (Refused f w) e h = cc

      at_mode : (c : Bool) → P.integer ≡ c → ((if c then Ok tt else Err rational_certificate) >> certified_outcome P (solve_with_certificate b P)) ≡ Ok t → IsCertified P t
      at_mode true i h = at_outcome i (solve_with_certificate b P) refl h
      at_mode false i h = cc
