-- The kept rows on both sides of one in a step.
use Rattle.tableau.proofs.Words.{◌≡◌, ap, sym, ◌∙◌, subst, ℕ, ◌+◌, ◌<◌, ◌≤◌, ℤ, pos, ◌≤ℤ◌, List, [], ◌∷◌, ◌++◌, length, get_or, map, take, drop, arith, append_assoc, length-append, length-drop, length-map, length-take-le, take-map, drop-map, Row, row_at, IsRow, IsReduced, entry, KeptRows, IsOver, IsSolvable, IsSpare, AreLent, AreLentOf, AreNext, AreSides, IsPivot, lent_row, row_kept, with_more, with_rows, Lent, Kept}
use Rattle.tableau.proofs.KeptParts.{kept_front, kept_behind}
use Rattle.tableau.proofs.Sides.{row_is}
use Rattle.tableau.proofs.Turning.{shape_with, still_spare}

-- ---- the next rows, made of the rows on both sides of one, and of one between them

pub sides_made : (t next cleared : KeptRows) (units : List ℤ) (r : ℕ) (v : Lent) (ks fs bs : List Kept) (p : Row) (d : Kept) → IsSpare t next units → AreLentOf t v ks → r < length t.rows
    → cleared ≡ record next { rows = [] } → fs ≡ take r ks → bs ≡ drop (r + 1) ks → p ≡ lent_row v (get_or ks r d) → AreSides t next units r cleared v fs p bs
sides_made t next cleared units r v ks fs bs p d spare h lt e f g is =
    let row = row_kept v.unknowns v.width v.numbers.now in
    let within : r < length ks = omega (arith, h.count, lt) in
    let begun = still_spare spare (shape_with cleared next [] e) in
    record {
      begun = record {
        is = e;
        count = omega (arith, ap (λ (s : KeptRows). length s.rows) e);
        over = record { unknowns = begun.unknowns ∙ h.over.unknowns; width = begun.width ∙ h.over.width; units = h.over.units };
        spare = begun;
      };
      over = h.over;
      few = h.few;
      front = ap (map row) f ∙ sym (take-map row r ks) ∙ ap (take r) h.rows;
      row = is ∙ row_is row ks r d within ∙ ap (λ (rows : List Row). row_at rows r) h.rows;
      back = ap (map row) g ∙ sym (drop-map row (r + 1) ks) ∙ ap (drop (r + 1)) h.rows;
      count = omega (arith, ap length f ∙ length-take-le r ks (omega (arith, within)), ap length g ∙ length-drop (r + 1) ks, h.count, within);
      front_lent = subst (AreLent v) (sym f) (kept_front v.unknowns v.width v.numbers.now ks r h.lent);
      back_lent = subst (AreLent v) (sym g) (kept_behind v.unknowns v.width v.numbers.now ks (r + 1) h.lent);
      formed = subst (IsRow v.unknowns v.width) (sym is) (h.lent.rows r d within);
      reduced = subst IsReduced (sym is) (h.lent.reduced r d within);
    }

-- more of them
next_more : {t next s : KeptRows} {units : List ℤ} {v : Lent} {rows : List Row} {k : ℕ} (u : KeptRows) (more : List Row) (j : ℕ) → AreNext t next units v rows k s → u ≡ with_rows s more → length more + j ≡ k
    → AreNext t next units v (rows ++ more) j u
next_more {t} {next} {s} u more j h e few =
    let shape = shape_with u s (s.rows ++ more) e in
    record {
      is = e ∙ ap (λ (x : KeptRows). with_rows x more) h.is;
      count = omega (arith, ap (λ (x : KeptRows). length x.rows) e, length-append s.rows more, h.count, few);
      over = record { unknowns = shape.unknowns ∙ h.over.unknowns; width = shape.width ∙ h.over.width; units = h.over.units };
      spare = still_spare h.spare shape;
    }

module _ {t next cleared : KeptRows} {units : List ℤ} {r : ℕ} {v : Lent} {fs bs : List Kept} {p : Row} (f : Kept → Row) (h : AreSides t next units r cleared v fs p bs) where
  pub first_made : (s : KeptRows) → s ≡ with_rows cleared (map f fs) → AreNext t next units v (map f fs) (1 + length bs) s
  first_made s e = next_more s (map f fs) (1 + length bs) h.begun e (omega (arith, h.count, length-map fs f))

  pub second_made : (s u : KeptRows) (one : Row) → s ≡ with_rows cleared (map f fs) → u ≡ with_more s one → AreNext t next units v (map f fs ++ one ∷ []) (length bs) u
  second_made s u one e g = next_more u (one ∷ []) (length bs) (first_made s e) g (omega arith)

  pub all_made : (s u last : KeptRows) (one : Row) → s ≡ with_rows cleared (map f fs) → u ≡ with_more s one → last ≡ with_rows u (map f bs) → AreNext t next units v (map f fs ++ one ∷ map f bs) 0 last
  all_made s u last one e g k =
      subst (λ (rs : List Row). AreNext t next units v rs 0 last) (append_assoc (map f fs) (one ∷ []) (map f bs))
      (next_more last (map f bs) 0 (second_made s u one e g) k (omega (arith, length-map bs f)))

-- they change places with the rows
pub next_swapped : {t next s : KeptRows} {units : List ℤ} {v : Lent} {rows : List Row} → AreNext t next units v rows 0 s → length t.rows ≤ t.most → IsSpare s t units
next_swapped h few = record {
  unknowns = sym h.spare.unknowns;
  width = sym h.spare.width;
  room = omega (arith, h.count, few);
  begun = λ some. h.spare.begun (omega (arith, h.count));
  run = λ some. rw (h.spare.unknowns, h.spare.width) (h.spare.run some);
}

-- ---- the pivot's row

pub formed_next : (s : KeptRows) (v : Lent) (p : Row) → IsOver s v → IsRow v.unknowns v.width p → IsRow s.unknowns s.width p
formed_next s v p o h = subst (λ i. IsRow i s.width p) (sym o.unknowns) (subst (λ i. IsRow v.unknowns i p) (sym o.width) h)

pub solvable_over : (t : KeptRows) (v : Lent) (p : Row) (c : ℕ) → IsOver t v → IsSolvable v.unknowns v.width p c → IsSolvable t.unknowns t.width p c
solvable_over t v p c o h = record {
  row = formed_next t v p o h.row;
  reduced = h.reduced;
  column = subst (λ i. c < i) (sym o.unknowns) h.column;
  positive = h.positive;
}

pub sides_solvable : {t next cleared : KeptRows} {units : List ℤ} {r : ℕ} {v : Lent} {fs bs : List Kept} {p : Row} (c : ℕ) → AreSides t next units r cleared v fs p bs → IsPivot t.unknowns t.rows r c → IsSolvable v.unknowns v.width p c
sides_solvable c h pivot = record {
  row = h.formed;
  reduced = h.reduced;
  column = subst (λ i. c < i) h.over.unknowns pivot.column;
  positive = subst (λ (q : Row). pos 1 ≤ℤ entry q.coefs c) (sym h.row) pivot.positive;
}
