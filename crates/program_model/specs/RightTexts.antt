-- What is right of a text and of an end, for the item that a command read.
use Rattle.std.specs.Prelude.{◌≡◌, ℕ, ◌-◌, ℤ, true, IsTrue, IsFalse, List, [], ◌++◌, length, codes, Some, Ok, ⊤}
use Rattle.pip_model.specs.Listed.{all_fit}
use Rattle.pip_model.specs.Problem.{Problem}
use Rattle.pip_model.specs.Tree.{Answer, Void, Solved, leaves, tree_value}
use Rattle.pip_model.specs.Right.{IsRight}
use Rattle.pip_model.specs.Leaves.{IsReached}
use Rattle.pip_model.specs.Simpler.{IsSimpler}
use Rattle.pip_model.specs.TreeText.{spell, read_answer, Commented}
use Rattle.pip_model.specs.PieceText.{pieces, answer_listed, spell_pieces}
use Rattle.pip_model.specs.Certificate.{Certificate, spell_certificate, read_certificate}
use Rattle.pip_model.specs.Check.{check, Accepted}
use Rattle.pip_model.specs.Share.{share}
use Rattle.pip_model.specs.Made.{IsNotRejected}
use Rattle.pip_model.specs.Run.{Overflow}
use Rattle.pip_model.specs.Walks.{ToolRefusal}
use Rattle.pip_model.specs.Tools.{Sameness}
use Rattle.pip_model.specs.Values.{answer_at_listed}
use Rattle.pip_model.specs.ToolLaws.{same_found, IsRestriction, IsRestrictRefusal, IsSameness, IsSameRefusal, IsLeastAnswer, IsLeastRefusal, IsPieceAt}
use Rattle.program_model.specs.Endings.{Ending, refusal_ending, tool_ending}
use Rattle.program_model.specs.ItemKinds.{Triple, Pair, Trio}
use Rattle.program_model.specs.ItemTexts.{sameness_text}

-- the text is that of the answer over m parameters, with its comment, and is read back, up to its last byte, as that
abbrev pub IsTextOfAnswer : ℕ → List ℕ → Answer → List ℕ → Type 0
IsTextOfAnswer m comment a t =
    (t ≡ spell comment a) × (read_answer t 0 m ≡ Ok (Some (record { comment = comment; answer = a }, length t - 1)))

-- the text is read, up to its last byte, as the certificate
abbrev pub IsReadAs : Certificate → List ℕ → Type 0
IsReadAs c t = read_certificate t 0 ≡ Ok (Some (c, length t - 1))

-- ---- solve

-- the text of a right answer, each of whose leaves is reached
abbrev pub IsSolvedText : Problem → List ℕ → Type 0
IsSolvedText P t = (a : Answer) × IsTextOfAnswer P.params P.comment a t × IsRight P a × IsReached P a

-- the text of such an answer to an integer problem, and behind it that of a certificate that the check does not
-- reject; both are read back
pub record IsCertified (P : Problem) (t : List ℕ) : Type 0 where
  pub answer : Answer
  pub certificate : Certificate
  pub text : t ≡ spell P.comment answer ++ spell_certificate certificate
  pub integer : P.integer ≡ true
  pub right : IsRight P answer
  pub reached : IsReached P answer
  pub answer_back : read_answer t 0 P.params
      ≡ Ok (Some (record { comment = P.comment; answer = answer }, length (spell P.comment answer) - 1))
  pub certificate_back : read_certificate t (length (spell P.comment answer) - 1)
      ≡ Ok (Some (certificate, length t - 1))
  pub not_rejected : IsNotRejected (check P answer certificate)

-- ---- eval

-- the answer over no parameters is void where the other is, else its value is the other's at u, fractions by cross
-- products
abbrev pub IsValueAt : Answer → List ℤ → Answer → Type 0
IsValueAt Void u Void = ⊤
IsValueAt (Solved t) u (Solved v) = IsTrue (same_found (tree_value v []) (tree_value t u))
IsValueAt a u v = ⊥

-- the text of an answer over no parameters, which is read back as that and whose value is the other's
abbrev pub IsValueText : List ℤ → Commented → List ℕ → Type 0
IsValueText u s t = (v : Answer) × IsTextOfAnswer 0 s.comment v t × IsValueAt s.answer u v

abbrev pub IsValueEnd : List ℤ → Commented → Ending → Type 0
IsValueEnd u s e = (e ≡ refusal_ending Overflow) × IsFalse (all_fit (answer_at_listed s.answer u))

-- ---- simplify

-- the same answer, or a simpler tree
abbrev pub IsSimplerAnswer : ℕ → Answer → Answer → Type 0
IsSimplerAnswer m Void Void = ⊤
IsSimplerAnswer m (Solved t) (Solved s) = IsSimpler m t s
IsSimplerAnswer m _ _ = ⊥

abbrev pub IsSimplifiedText : ℕ → Commented → List ℕ → Type 0
IsSimplifiedText m s t = (a : Answer) × IsTextOfAnswer m s.comment a t × IsSimplerAnswer m s.answer a

-- ---- check and share

-- the answer is right, and the text says that it is accepted
abbrev pub IsRightVerdict : Triple → List ℕ → Type 0
IsRightVerdict t text = IsRight t.problem t.answer × (text ≡ codes "accepted\n")

-- the answer is right, and the text is that of the shared certificate, which is accepted with it, and read back
abbrev pub IsRightSharing : Triple → List ℕ → Type 0
IsRightSharing t text =
    let c = share t.problem t.answer t.certificate in
    IsRight t.problem t.answer × Accepted t.problem t.answer c × (text ≡ spell_certificate c) × IsReadAs c text

-- ---- restrict

abbrev pub IsRestrictedText : ℕ → Pair → List ℕ → Type 0
IsRestrictedText m p t = (b : Answer) × IsTextOfAnswer m p.first.comment b t × IsRestriction m p.rows p.first.answer b

abbrev pub IsRestrictEnd : ℕ → Pair → Ending → Type 0
IsRestrictEnd m p e = (r : ToolRefusal) × (e ≡ tool_ending r) × IsRestrictRefusal m p.rows p.first.answer r

-- ---- same

abbrev pub IsSameText : ℕ → Trio → List ℕ → Type 0
IsSameText m t text = (s : Sameness) × (text ≡ sameness_text s) × IsSameness m t.rows t.first.answer t.second.answer s

abbrev pub IsSameEnd : ℕ → Trio → Ending → Type 0
IsSameEnd m t e = (r : ToolRefusal) × (e ≡ tool_ending r) × IsSameRefusal m t.rows t.first.answer t.second.answer r

-- ---- least

abbrev pub IsLeastText : ℕ → Trio → List ℕ → Type 0
IsLeastText m t text =
    (c : Answer) × IsTextOfAnswer m t.first.comment c text × IsLeastAnswer m t.rows t.first.answer t.second.answer c

abbrev pub IsLeastEnd : ℕ → Trio → Ending → Type 0
IsLeastEnd m t e = (r : ToolRefusal) × (e ≡ tool_ending r) × IsLeastRefusal m t.rows t.first.answer t.second.answer r

-- ---- pieces

-- the tree's pieces part the whole vectors
abbrev pub ArePieces : ℕ → Answer → Type 0
ArePieces m Void = ⊤
ArePieces m (Solved t) = (length (pieces t) ≡ leaves t) × ((u : List ℤ) → length u ≡ m → IsPieceAt t u)

abbrev pub IsPiecesText : ℕ → Commented → List ℕ → Type 0
IsPiecesText m s t = (t ≡ spell_pieces s.comment s.answer) × ArePieces m s.answer

abbrev pub IsPiecesEnd : Commented → Ending → Type 0
IsPiecesEnd s e = (e ≡ refusal_ending Overflow) × IsFalse (all_fit (answer_listed s.answer))
