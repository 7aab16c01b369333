-- Where the first group of a text ends.
use Rattle.pip_stream.proofs.Words.{◌≡◌, refl, sym, ap, ◌∙◌, ℕ, suc, ◌+◌, ◌-◌, ◌<◌, ◌≤◌, arith, List, ◌∷◌, ◌++◌, append_assoc, length, true, length-append, length-take, take, drop, take-append-add, drop-append-add, take-append-drop, list_all-append, Option, Some, None, list_all, is_closed, closing, next_open, next_open-append, next_open-closed, next_open-first, next_open-none, group_behind, first_group_end, place_behind}
use Rattle.text_laws.proofs.Groups.{closing-append, closing-closes}
use Rattle.pip_reader.proofs.Scanning.{closing-moved}

-- bytes with a first `(`
pub record Opened (bytes : List ℕ) (place : ℕ) : Type 0 where
  pub before : List ℕ
  pub tail : List ℕ
  pub is : bytes ≡ before ++ (40 ∷ tail)
  pub count : length before ≡ place
  pub closed : list_all is_closed before ≡ true

pub opened : (bytes : List ℕ) (place : ℕ) → next_open 0 bytes ≡ Some place → Opened bytes place
opened bytes place h =
    let f = next_open-first 0 place bytes h in
    let size : length (take place bytes) ≡ place = simp length-take (omega (arith, f.high)) in
    let all : place - 0 ≡ place = omega arith in
    record {
      before = take place bytes;
      tail = f.tail;
      is = sym (take-append-drop place bytes) ∙ ap (λ s. take place bytes ++ s) (ap (λ n. drop n bytes) (sym all) ∙ f.byte);
      count = size;
      closed = rw all at f.before;
    }

drop-one : (before : List ℕ) (b : ℕ) (tail : List ℕ) → drop (suc (length before)) (before ++ (b ∷ tail)) ≡ tail
drop-one before b tail =
    let size : suc (length before) ≡ length before + 1 = omega arith in
    ap (λ n. drop n (before ++ (b ∷ tail))) size ∙ drop-append-add before (b ∷ tail) 1

-- the group that begins behind closed bytes
pub group_end-opened : (before tail : List ℕ) → list_all is_closed before ≡ true → first_group_end (before ++ (40 ∷ tail)) ≡ closing 1 (suc (length before)) tail
group_end-opened before tail h =
    ap (group_behind (before ++ (40 ∷ tail))) (next_open-append 0 before tail h ∙ ap Some (omega arith)) ∙ ap (closing 1 (suc (length before))) (drop-one before 40 tail)

-- closed bytes before a text move the end of its group
pub group_end-behind : (front bytes : List ℕ) → list_all is_closed front ≡ true → first_group_end (front ++ bytes) ≡ place_behind (length front) (first_group_end bytes)
group_end-behind front bytes h = by_open (next_open 0 bytes) refl
  where
    by_open : (o : Option ℕ) → next_open 0 bytes ≡ o → first_group_end (front ++ bytes) ≡ place_behind (length front) (first_group_end bytes)
    by_open None is =
        let none : list_all is_closed (front ++ bytes) ≡ true = rw (list_all-append is_closed front bytes, h, next_open-none 0 bytes is) refl in
        rw (is, next_open-closed 0 (front ++ bytes) none) refl
    by_open (Some place) is =
        let o = opened bytes place is in
        let all : list_all is_closed (front ++ o.before) ≡ true = rw (list_all-append is_closed front o.before, h, o.closed) refl in
        let size : suc (length (front ++ o.before)) ≡ length front + suc (length o.before) = omega (arith, length-append front o.before) in
        ap (λ s. first_group_end (front ++ s)) o.is ∙ ap first_group_end (sym (append_assoc front o.before (40 ∷ o.tail)))
        ∙ group_end-opened (front ++ o.before) o.tail all ∙ ap (λ p. closing 1 p o.tail) size ∙ closing-moved (length front) 1 (suc (length o.before)) o.tail
        ∙ ap (place_behind (length front)) (sym (group_end-opened o.before o.tail o.closed) ∙ ap first_group_end (sym o.is))

-- a group that is ended: where, and that what stands behind it does not matter
pub record EndsAt (bytes : List ℕ) (n : ℕ) : Type 0 where
  pub place : ℕ
  pub opens : next_open 0 bytes ≡ Some place
  pub low : place < n
  pub high : n ≤ length bytes
  pub alone : first_group_end (take n bytes) ≡ Some n
  pub longer : (more : List ℕ) → first_group_end (bytes ++ more) ≡ Some n

pub group_end-ends : (bytes : List ℕ) (n : ℕ) → first_group_end bytes ≡ Some n → EndsAt bytes n
group_end-ends bytes n h = by_open (next_open 0 bytes) refl
  where
    by_open : (o : Option ℕ) → next_open 0 bytes ≡ o → EndsAt bytes n
    by_open None is = let none : first_group_end bytes ≡ None = ap (group_behind bytes) is in cc
    by_open (Some place) is =
        let o = opened bytes place is in
        let closed : closing 1 (suc (length o.before)) o.tail ≡ Some n = sym (group_end-opened o.before o.tail o.closed) ∙ ap first_group_end (sym o.is) ∙ h in
        let c = closing-closes 1 (suc (length o.before)) n o.tail closed in
        let inner = n - suc (length o.before) in
        let size : n ≡ length o.before + suc inner = omega (arith, c.low) in
        let whole : length bytes ≡ length o.before + suc (length o.tail) = ap length o.is ∙ length-append o.before (40 ∷ o.tail) in
        let front : take n bytes ≡ o.before ++ (40 ∷ take inner o.tail) = ap (λ k. take k bytes) size ∙ ap (take (length o.before + suc inner)) o.is ∙ take-append-add o.before (40 ∷ o.tail) (suc inner) in
        record {
          place = place;
          opens = is;
          low = omega (arith, c.low, o.count);
          high = omega (arith, c.high, whole);
          alone = ap first_group_end front ∙ group_end-opened o.before (take inner o.tail) o.closed ∙ c.alone (suc (length o.before)) ∙ ap Some (omega (arith, c.low));
          longer = λ more.
              ap (λ s. first_group_end (s ++ more)) o.is ∙ ap first_group_end (append_assoc o.before (40 ∷ o.tail) more)
              ∙ group_end-opened o.before (o.tail ++ more) o.closed
              ∙ closing-append 1 (suc (length o.before)) (suc (length o.before)) n n o.tail more refl closed;
        }
