-- A cut's form behind the others.
use Rattle.form_run.proofs.Words.{◌≡◌, ◌∙◌, ap, sym, ℕ, ◌+◌, ◌*◌, ◌^◌, ◌<◌, ◌≤◌, ℤ, pos, ◌≤ℤ◌, arith, List, [], ◌∷◌, ◌++◌, length, map, append_assoc, map-append, All-push, All-weaker, negate, Row, divided, constant_cut, fractional_parts, residue_of, TableauRows, with_row, norm, Basis, read, NumberLists, IsHeld, all_rows}
use Rattle.row_laws.proofs.Contents.{content-divided}
use Rattle.form_basis.proofs.Begun.{divided_reduced}

-- a cut is divided already
pub cut_divided : (r : Row) → pos 1 ≤ℤ r.den → divided (constant_cut r) ≡ constant_cut r
cut_divided r h = divided_reduced (constant_cut r) (content-divided (record { den = r.den; coefs = fractional_parts r; constant = negate (residue_of r).form }) h)

-- ---- a form more

pub row_added : (t : TableauRows) (b : Basis) (forms : List (List ℤ)) (f : List ℤ) (r : Row) → read t b f ≡ r → all_rows t b (forms ++ f ∷ []) ≡ with_row (all_rows t b forms) r
row_added t b forms f r is =
    ap (λ (rows : List Row). record { unknowns = t.unknowns; width = 0; rows = rows })
    (ap (λ (rows : List Row). t.rows ++ rows) (map-append (read t b) forms (f ∷ []))
    ∙ sym (append_assoc t.rows (map (read t b) forms) (read t b f ∷ []))
    ∙ ap (λ (q : Row). (t.rows ++ map (read t b) forms) ++ q ∷ []) is)

pub held_more : (t : TableauRows) (b : Basis) (forms columns now : NumberLists) (most k : ℕ) (f : List ℤ) → IsHeld t b forms columns most → now ≡ record forms { lists = forms.lists ++ f ∷ [] } → length f ≡ t.unknowns + 1
    → most ≤ k → norm f ≤ k → k * b.most < 2 ^ 63 → IsHeld t b now columns k
held_more t b forms columns now most k f h is wide le one bound = rw is (record {
  basis = h.basis;
  size = h.size;
  wide = All-push (λ (g : List ℤ). length g ≡ t.unknowns + (0 + 1)) forms.lists f h.wide wide;
  norms = All-push (λ (g : List ℤ). norm g ≤ k) forms.lists f (All-weaker (λ (g : List ℤ). norm g ≤ most) (λ (g : List ℤ). norm g ≤ k) (λ g small. omega (arith, small, le)) forms.lists h.norms) one;
  bound = bound;
  columns_size = h.columns_size;
  columns_count = h.columns_count;
})
