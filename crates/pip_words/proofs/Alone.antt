-- A command among all gives what it gives alone, where its name stands behind the program's.
use Rattle.pip_words.proofs.Words.{◌≡◌, ◌∙◌, refl, sym, subst, ap, ap₂, append_assoc, append-nil, true, false, Bool, List, [], ◌∷◌, ◌++◌, map, fold, Option, None, Some, option_map, if◌then◌else◌, App, Kinds, Text, fault_of, is_simple_and_free, subcommand_of, matches_of, pip_app, command_of, command_in, command_named, is_accepted, spellings, Spelling, arith, ℕ, suc, ◌-◌, ◌<◌, length, get_or, take, drop, find, cond, bytes_eq, is_some, slice_get, Shape, argument_words, built, entered, label_of, names_of, rows_at, app_given, app_alone, command_alone, spelling_named}
use Rattle.std.specs.Option.{option_map_or}
use Rattle.std.proofs.lemmas.Slice.Eq.{bytes_eq-Decides}
use Rattle.std.proofs.Math.Seq.{take-length}
use Rattle.clap.specs.Walk.{Names, Row, Rule, Walk, answers_to, finished, nothing_held, rows_after, settled, walk, walk_from, walked}
use Rattle.clap.specs.Faults.{built_fault, check_fault, defaults_fault, entered_fault, level_fault, settle_fault, turn_fault, walk_fault}
use Rattle.clap.specs.Kinds.{or_else}
use Rattle.pip_words.specs.declared.arguments.Entry.{Entry}

abbrev start : Walk
start = walk_from nothing_held

-- ---- a walk that stopped at a name

abbrev stopped_at : Walk → Text → List Text → Walk
stopped_at w name words = record w { stopped = Some (name, words) }

walked_on : (c : List Rule) (names : Names) (w : Walk) (name : Text) (words more : List Text)
    → fold (walked c names) (stopped_at w name words) more ≡ stopped_at w name (words ++ more)
unfolding walked
walked_on c names w name words [] = ap (stopped_at w name) (sym (append-nil words))
walked_on c names w name words (word ∷ more) =
    walked_on c names w name (words ++ word ∷ []) more ∙ ap (stopped_at w name) (append_assoc words (word ∷ []) more)

no_fault_behind : (s : Shape) (names : Names) (w : Walk) (name : Text) (words more : List Text)
    → walk_fault s names (stopped_at w name words) more ≡ []
unfolding walked walk_fault
no_fault_behind s names w name words [] = refl
no_fault_behind s names w name words (word ∷ more) = no_fault_behind s names w name (words ++ word ∷ []) more

nothing_else : (ks : Kinds) → or_else ks [] ≡ ks
nothing_else [] = refl
nothing_else (k ∷ ks) = refl

-- what is wrong behind a walk's words
abbrev fault_after : Shape → Walk → Bool → Kinds
fault_after s w has_subcommand =
    or_else (settle_fault s.rules s.args_override_self w.held) (or_else (defaults_fault (settled s.rules w.held).rows s.rules)
    (check_fault s (finished s.rules w.held) has_subcommand))

abbrev fault_by : App → List Text → Walk → Kinds
fault_by a words w = or_else (walk_fault a.top (names_of a) start words)
    (or_else (entered_fault a w.stopped) (fault_after a.top w (is_some (entered a w.stopped))))

abbrev own_fault : Shape → List Text → Kinds
own_fault s words = level_fault s [] nothing_held words false []

-- a built program a that meets the name of its command s in front of the words
module _ (a : App) (s : Shape) (name : Text)
    (met : walked a.top.rules (names_of a) start name ≡ stopped_at start name [])
    (quiet : turn_fault a.top (names_of a) start name ≡ [])
    (found : find (λ x. answers_to name (label_of x)) a.subs ≡ Some s)
    (ended : fault_after a.top start true ≡ []) where
  stops : (words : List Text) → walk a.top.rules (names_of a) nothing_held (name ∷ words) ≡ stopped_at start name words
  stops words = ap (λ (w : Walk). fold (walked a.top.rules (names_of a)) w words) met
      ∙ walked_on a.top.rules (names_of a) start name [] words

  enters : (words : List Text) → entered a (Some (name, words)) ≡ Some (rows_at s words)
  enters words = ap (option_map (λ x. rows_at x words)) found

  no_walk_fault : (words : List Text) → walk_fault a.top (names_of a) start (name ∷ words) ≡ []
  unfolding walk_fault
  no_walk_fault words = ap₂ or_else quiet (ap (λ (w : Walk). walk_fault a.top (names_of a) w words) met
      ∙ no_fault_behind a.top (names_of a) start name [] words)

  enters_fault : (words : List Text) → entered_fault a (Some (name, words)) ≡ own_fault s words
  enters_fault words = ap (λ (o : Option Shape). option_map_or (λ x. own_fault x words) o []) found

  same_fault : (words : List Text) → built_fault a nothing_held (name ∷ words) ≡ own_fault s words
  same_fault words = ap (fault_by a (name ∷ words)) (stops words)
      ∙ (ap₂ or_else (no_walk_fault words) (ap₂ or_else (enters_fault words)
      (ap (λ (o : Option (Text × List Row)). fault_after a.top start (is_some o)) (enters words) ∙ ended))
      ∙ nothing_else (own_fault s words))

  same_rows : (words : List Text) → entered a (walk a.top.rules (names_of a) nothing_held (name ∷ words)).stopped ≡ Some (rows_at s words)
  same_rows words = ap (λ (w : Walk). entered a w.stopped) (stops words) ∙ enters words

-- ---- a program without commands

abbrev leaf : Shape → App
leaf s = record { top = s; subs = [] }

enters_none : (s : Shape) (stop : Option (Text × List Text)) → entered (leaf s) stop ≡ None
enters_none s None = refl
enters_none s (Some p) = refl

enters_no_fault : (s : Shape) (stop : Option (Text × List Text)) → entered_fault (leaf s) stop ≡ []
enters_no_fault s None = refl
enters_no_fault s (Some p) = refl

leaf_fault : (s : Shape) (words : List Text) → built_fault (leaf s) nothing_held words ≡ own_fault s words
leaf_fault s words = let stop = (walk s.rules [] nothing_held words).stopped in
    ap₂ (λ (o : Option (Text × List Row)) (ks : Kinds). level_fault s [] nothing_held words (is_some o) ks)
    (enters_none s stop) (enters_no_fault s stop)

-- ---- the commands of the program

-- what is computed of a command: its own program has simple arguments, drops its first word, has the command's name and
-- no commands; the program with all stops at the name without a fault, and finds the same shape
Facts : Type 0
Facts = (Bool × (Bool × Text)) × ((List Shape × Walk) × (Kinds × Option Shape))

seen : Spelling → Facts
unfolding Facts
seen s = let a = app_alone s in let all = built pip_app in (
  (is_simple_and_free a, (a.top.no_binary_name, (built a).top.name)),
  (
    ((built a).subs, walked all.top.rules (names_of all) start s.name),
    (turn_fault all.top (names_of all) start s.name, find (λ x. answers_to s.name (label_of x)) all.subs),
  ),
)

wanted : Spelling → Facts
unfolding Facts
wanted s = ((true, (false, s.name)), (([], stopped_at start s.name []), ([], Some (built (app_alone s)).top)))

all_seen : map seen spellings ≡ map wanted spellings
unfolding seen wanted walked Facts
all_seen = refl

-- what the command of a name gives, where no word stands behind it, is what it gives without values
all_bare : (word : Text) → map (λ s. command_alone (app_alone s) s.name (word ∷ [])) spellings ≡ map (λ s. command_named s.name []) spellings
unfolding walk_fault defaults_fault
all_bare word = refl

among : {F : Type 0} (f g : Spelling → F) (ss : List Spelling) (name : Text) (s : Spelling) → map f ss ≡ map g ss
    → find (λ x. bytes_eq x.name name) ss ≡ Some s → (s.name ≡ name) × (f s ≡ g s)
among f g [] name s e found = cc
among f g (x ∷ ss) name s e found = go (bytes_eq x.name name) (bytes_eq-Decides x.name name).0 found (λ more. among f g ss name s (cc) more)
  where
    here : f x ≡ g x
    here = cc

    go : (t : Bool) → (t ≡ true → x.name ≡ name) → cond t (Some x) (find (λ y. bytes_eq y.name name) ss) ≡ Some s
        → (find (λ y. bytes_eq y.name name) ss ≡ Some s → (s.name ≡ name) × (f s ≡ g s)) → (s.name ≡ name) × (f s ≡ g s)
    go true same is rest = let x_is : x ≡ s = cc in subst (λ (y : Spelling). (y.name ≡ name) × (f y ≡ g y)) x_is (same refl, here)
    go false same is rest = rest is

ended_well : fault_after (built pip_app).top start true ≡ []
unfolding defaults_fault
ended_well = refl

own_words : (a : App) (name : Text) (words : List Text) → a.top.no_binary_name ≡ false → argument_words a (name ∷ words) ≡ words
own_words a name words h = ap (λ (t : Bool). if t then name ∷ words else words) h

as_leaf : (a : App) → a.subs ≡ [] → a ≡ leaf a.top
as_leaf a h = ap (λ (ss : List Shape). record { top = a.top; subs = ss }) h

-- a command, and any first word
module _ (s : Spelling) (first : Text) (words : List Text) (is : seen s ≡ wanted s) where
  fault_alone : fault_of pip_app (first ∷ s.name ∷ words) ≡ fault_of (app_alone s) (s.name ∷ words)
  unfolding seen wanted Facts
  fault_alone =
      let a = app_alone s in
      let b = built a in
      let own : b.subs ≡ [] = ap (λ (f : Facts). f.1.0.0) is in
      same_fault (built pip_app) b.top s.name (ap (λ (f : Facts). f.1.0.1) is) (ap (λ (f : Facts). f.1.1.0) is) (ap (λ (f : Facts). f.1.1.1) is) ended_well words
      ∙ sym (ap (built_fault b nothing_held) (own_words a s.name words (ap (λ (f : Facts). f.0.1.0) is))
      ∙ (ap (λ (c : App). built_fault c nothing_held words) (as_leaf b own) ∙ leaf_fault b.top words))

  subcommand_alone : subcommand_of pip_app (first ∷ s.name ∷ words) ≡ Some (s.name, matches_of (app_alone s) (s.name ∷ words))
  unfolding seen wanted Facts
  subcommand_alone =
      let a = app_alone s in
      let b = built a in
      let own : b.subs ≡ [] = ap (λ (f : Facts). f.1.0.0) is in
      same_rows (built pip_app) b.top s.name (ap (λ (f : Facts). f.1.0.1) is) (ap (λ (f : Facts). f.1.1.0) is) (ap (λ (f : Facts). f.1.1.1) is) ended_well words
      ∙ ap₂ (λ (name : Text) (rows : List Row). Some (name, rows)) (ap (λ (f : Facts). f.0.1.1) is)
      (sym (ap (rows_after b.top.rules (names_of b)) (own_words a s.name words (ap (λ (f : Facts). f.0.1.0) is))
      ∙ ap (λ (c : App). rows_after b.top.rules (names_of c) words) (as_leaf b own)))

  spelled_alone : command_of (first ∷ s.name ∷ words) ≡ command_alone (app_alone s) s.name (s.name ∷ words)
  spelled_alone = ap₂ (λ (ks : Kinds) (o : Option (Text × List Row)). if is_accepted ks then command_in o else None) fault_alone subcommand_alone

pub simple_alone : (name : Text) (a : App) → Some a ≡ option_map app_alone (spelling_named name) → is_simple_and_free a ≡ true
unfolding seen wanted Facts
simple_alone name a e = go (spelling_named name) refl e
  where
    go : (o : Option Spelling) → spelling_named name ≡ o → Some a ≡ option_map app_alone o → is_simple_and_free a ≡ true
    go None h e = cc
    go (Some s) h e = let a_is : a ≡ app_alone s = cc in
        ap is_simple_and_free a_is ∙ ap (λ (f : Facts). f.0.0) ((among seen wanted spellings name s all_seen h).1)

-- a word alone, by the program of the command of a name
pub bare_alone : {A : Type 0} (f : A → Text) (words : List A) (name : Text) (a : App) → length words ≡ 1
    → Some a ≡ option_map app_alone (spelling_named name) → command_alone a name (map f words) ≡ command_named name []
bare_alone f [] name a one e = absurd (omega arith)
bare_alone f (word ∷ second ∷ words) name a one e = absurd (omega arith)
bare_alone f (word ∷ []) name a one e = go (spelling_named name) refl e
  where
    go : (o : Option Spelling) → spelling_named name ≡ o → Some a ≡ option_map app_alone o → command_alone a name (f word ∷ []) ≡ command_named name []
    go None h e = cc
    go (Some s) h e =
        let a_is : app_alone s ≡ a = cc in
        let fits = among (λ s. command_alone (app_alone s) s.name (f word ∷ [])) (λ s. command_named s.name []) spellings name s (all_bare (f word)) h in
        subst (λ (x : Text). command_alone a x (f word ∷ []) ≡ command_named x []) fits.0
        (ap (λ (x : App). command_alone x s.name (f word ∷ [])) (sym a_is) ∙ fits.1)

-- where the second word is a command's name, the words from there on are those of its own program
pub command_is_alone : (words : List Text) (name : Text) (a : App) → slice_get words 1 ≡ Some name
    → Some a ≡ option_map app_alone (spelling_named name) → command_of words ≡ command_alone a name (drop 1 words)
command_is_alone [] name a at e = cc
command_is_alone (first ∷ []) name a at e = cc
command_is_alone (first ∷ second ∷ words) name a at e = let second_is : second ≡ name = cc in
    ap (λ (x : Text). command_of (first ∷ x ∷ words)) second_is ∙ (go (spelling_named name) refl e
    ∙ ap (λ (x : Text). command_alone a name (x ∷ words)) (sym second_is))
  where
    go : (o : Option Spelling) → spelling_named name ≡ o → Some a ≡ option_map app_alone o
        → command_of (first ∷ name ∷ words) ≡ command_alone a name (name ∷ words)
    go None h e = cc
    go (Some s) h e =
        let a_is : app_alone s ≡ a = cc in
        let fits = among seen wanted spellings name s all_seen h in
        subst (λ (x : Text). command_of (first ∷ x ∷ words) ≡ command_alone a x (x ∷ words)) fits.0
        (spelled_alone s first words fits.1 ∙ ap (λ (x : App). command_alone x s.name (s.name ∷ words)) a_is)

-- ---- the entries

found_by : {A : Type 0} (f : A → Text × App) (t : Bool) (x : A) (o : Option A) → option_map (λ y. (f y).1) (cond t (Some x) o) ≡ cond t (Some (f x).1) (option_map (λ y. (f y).1) o)
found_by f true x o = refl
found_by f false x o = refl

-- lists that give the same names and programs give the same program for a name
pub same_found : {A B : Type 0} (f : A → Text × App) (g : B → Text × App) (xs : List A) (ys : List B) (name : Text) → map f xs ≡ map g ys
    → option_map (λ x. (f x).1) (find (λ x. bytes_eq (f x).0 name) xs) ≡ option_map (λ y. (g y).1) (find (λ y. bytes_eq (g y).0 name) ys)
same_found f g [] [] name e = refl
same_found f g [] (y ∷ ys) name e = cc
same_found f g (x ∷ xs) [] name e = cc
same_found f g (x ∷ xs) (y ∷ ys) name e =
    let heads : f x ≡ g y = cc in
    let tails : map f xs ≡ map g ys = cc in
    found_by f (bytes_eq (f x).0 name) x (find (λ x. bytes_eq (f x).0 name) xs)
    ∙ (ap₂ (λ (p : Text × App) (o : Option App). cond (bytes_eq p.0 name) (Some p.1) o) heads (same_found f g xs ys name tails)
    ∙ sym (found_by g (bytes_eq (g y).0 name) y (find (λ y. bytes_eq (g y).0 name) ys)))

abbrev name_and_app : Entry → Text × App
name_and_app e = (e.name.now, app_given e)

abbrev spelled : Spelling → Text × App
spelled s = (s.name, app_alone s)

pub entry_found : (r : Option Entry) (xs : List Entry) (name : Text) → r ≡ find (λ e. bytes_eq e.name.now name) xs
    → map name_and_app xs ≡ map spelled spellings
    → option_map app_given r ≡ option_map app_alone (spelling_named name)
entry_found r xs name is same = ap (option_map app_given) is ∙ same_found name_and_app spelled xs spellings name same

-- ---- the words as they are lent

behind : {A : Type 0} (f : A → Text) (xs : List A) (x : A) → 1 < length xs → x ≡ get_or xs 1 x
    → (slice_get (map f xs) 1 ≡ Some (f x)) × (drop 1 (map f xs) ≡ map f (take (length xs - 1) (drop 1 xs)))
behind f [] x h e = absurd (omega arith)
behind f (y ∷ []) x h e = absurd (omega arith)
behind {A} f (y ∷ z ∷ xs) x h e =
    let count : suc (length xs) ≡ suc (suc (length xs)) - 1 = omega arith in
    (ap (λ (w : A). Some (f w)) (sym e), ap (λ (ws : List A). f z ∷ map f ws) (sym (take-length xs)) ∙ ap (λ (k : ℕ). map f (take k (z ∷ xs))) count)

pub read_alone : {A : Type 0} (f : A → Text) (items xs : List A) (x : A) (name : Text) (a : App) → xs ≡ items → 1 < length xs → x ≡ get_or xs 1 x
    → name ≡ f x → Some a ≡ option_map app_alone (spelling_named name)
    → command_of (map f items) ≡ command_alone a name (map f (take (length xs - 1) (drop 1 xs)))
read_alone {A} f items xs x name a is h e called entry =
    let there = behind f xs x h e in
    ap (λ (ws : List A). command_of (map f ws)) (sym is)
    ∙ (command_is_alone (map f xs) name a (there.0 ∙ ap (λ (t : Text). Some t) (sym called)) entry
    ∙ ap (command_alone a name) there.1)
