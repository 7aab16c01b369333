-- The command that the words of the command line give, over clap's definition of a simple command.
use Rattle.std.specs.Prelude.{◌≡◌, ℕ, ◌-◌, ◌^◌, ℤ, Bool, true, false, List, [], ◌∷◌, map, fold, Option, Some, None, option_map}
use Rattle.std.specs.Prelude.{Result, Ok, Err, Vec, String, string_bytes, codes, if◌then◌else◌, ◌&&◌, nat_le, length, ⊤}
use Rattle.std.specs.declared.alloc.Global.{Global}
use Rattle.std.specs.Option.{option_map_or}
use Rattle.std.specs.Str.{bytes_eq}
use Rattle.clap.specs.Words.{App, Row, Rule, Text, Kinds, with_subcommand, fault_of, subcommand_of, first_of, all_of}
use Rattle.pip_model.specs.Limits.{most_params, most_pivots, most_cuts, most_splits, most_nesting}
use Rattle.pip_model.specs.Run.{Budget, standard_budget}
use Rattle.program_model.specs.Commands.{SolveOptions, Command, Solve, Eval, Simplify, CheckAll, ShareAll, Trial, Pieces, Restrict, Same, Least}
use Rattle.pip_words.specs.Arguments.{flag_rule, setting_rule, needed_rule, values_rule, command_with, bare_app}
use Rattle.pip_words.specs.Numbers.{number_of, parameter_of, most_drawn}
use Rattle.pip_words.specs.declared.command.Command.{Command as Given}
use Rattle.pip_words.specs.declared.command.SolveOptions.{SolveOptions as GivenOptions}
use Rattle.pip_words.specs.declared.command.Command.TheVariants as given
use Rattle.pip_words.specs.declared.refusal.WordsRefusal.{WordsRefusal}
use Rattle.pip_words.specs.declared.refusal.WordsRefusal.TheVariants as refusal

-- what the code's command is in the model
abbrev pub options_of : GivenOptions → SolveOptions
options_of o = record { polylib = o.polylib; simplify = o.simplify; certificate = o.certificate; budget = o.limits }

abbrev pub meaning_of : Given → Command
meaning_of (given.Solve o) = Solve (options_of o)
meaning_of (given.Eval u) = Eval u
meaning_of (given.Simplify o) = Simplify o.params
meaning_of given.Check = CheckAll
meaning_of given.Share = ShareAll
meaning_of (given.Trial o) = Trial o.seed o.count
meaning_of (given.Pieces o) = Pieces o.params
meaning_of (given.Restrict o) = Restrict o.params o.limits
meaning_of (given.Same o) = Same o.params o.limits
meaning_of (given.Least o) = Least o.params o.limits

infixl 10 ◌>>=◌
abbrev pub ◌>>=◌ : {A B : Type 0} → Option A → (A → Option B) → Option B
None >>= f = None
(Some x) >>= f = f x

-- the flag is given
abbrev pub flag_of : Text → List Row → Bool
flag_of name rows = option_map_or (λ text. bytes_eq text (codes "true")) (first_of name rows) false

-- the number of an option's text, or the default where it is not given
abbrev pub number_or : ℕ → ℕ → Option Text → Option ℕ
number_or most default None = Some default
number_or most default (Some text) = number_of most text

-- the number of an option, of at most `most`
abbrev pub limit_of : Text → ℕ → ℕ → List Row → Option ℕ
limit_of name most default rows = number_or most default (first_of name rows)

abbrev pub budget_by : Option ℕ → Option ℕ → Option ℕ → Option ℕ → Option Budget
budget_by pivots cuts splits nesting = do
  p ← pivots
  c ← cuts
  s ← splits
  n ← nesting
  Some (record { pivots = p; cuts = c; splits = s; nesting = n })

-- [--pivots N] [--cuts N] [--splits N] [--nesting N]
abbrev pub budget_of : List Row → Option Budget
budget_of rows = budget_by (limit_of (codes "pivots") most_pivots standard_budget.pivots rows)
    (limit_of (codes "cuts") most_cuts standard_budget.cuts rows)
    (limit_of (codes "splits") most_splits standard_budget.splits rows)
    (limit_of (codes "nesting") most_nesting standard_budget.nesting rows)

abbrev pub solve_with : List Row → Budget → Command
solve_with rows budget = Solve (record {
  polylib = flag_of (codes "polylib") rows;
  simplify = flag_of (codes "simplify") rows;
  certificate = flag_of (codes "certificate") rows;
  budget = budget;
})

-- solve [--polylib] [--simplify] [--certificate], and a budget; what has a certificate is not simplified
abbrev pub solve_of : List Row → Option Command
solve_of rows =
    if flag_of (codes "simplify") rows && flag_of (codes "certificate") rows then None
    else option_map (solve_with rows) (budget_of rows)

abbrev pub all_parameters : List Text → Option (List ℤ)
all_parameters [] = Some []
all_parameters (text ∷ texts) = do
  z ← parameter_of text
  zs ← all_parameters texts
  Some (z ∷ zs)

-- at most as many numbers as there may be parameters
abbrev pub parameters_of : List Text → Option (List ℤ)
parameters_of texts = if nat_le (length texts) most_params then all_parameters texts else None

-- the texts of a positional argument
abbrev pub texts_of : Option (List Text) → List Text
texts_of None = []
texts_of (Some texts) = texts

-- eval P1 .. Pm
abbrev pub eval_of : List Row → Option Command
eval_of rows = option_map Eval (parameters_of (texts_of (all_of (codes "parameter") rows)))

-- the number of a required argument, of at most `most`
abbrev pub needed_of : Text → ℕ → List Row → Option ℕ
needed_of name most rows = do
  text ← first_of name rows
  number_of most text

-- M, of a command over so many parameters
abbrev pub counted_of : (ℕ → Command) → List Row → Option Command
counted_of command rows = option_map command (needed_of (codes "parameters") most_params rows)

-- trial SEED COUNT
abbrev pub trial_of : List Row → Option Command
trial_of rows = do
  seed ← needed_of (codes "seed") (2 ^ 64 - 1) rows
  count ← needed_of (codes "count") most_drawn rows
  Some (Trial seed count)

-- a number of parameters and a budget
abbrev pub walk_of : List Row → Option (ℕ × Budget)
walk_of rows = do
  m ← needed_of (codes "parameters") most_params rows
  b ← budget_of rows
  Some (m, b)

-- M and a budget, of a command that walks answers over so many parameters
abbrev pub walked_of : (ℕ → Budget → Command) → List Row → Option Command
walked_of command rows = option_map (λ w. command w.0 w.1) (walk_of rows)

-- ---- the commands

-- A command as words spell it: its name, its arguments, and what their values give.
pub record Spelling : Type 0 where
  pub name : Text
  pub rules : List Rule
  pub given : List Row → Option Command

abbrev pub spellings : List Spelling
spellings =
    record {
      name = codes "solve";
      rules = flag_rule (codes "polylib") ∷ flag_rule (codes "simplify") ∷ flag_rule (codes "certificate")
          ∷ setting_rule (codes "pivots") ∷ setting_rule (codes "cuts") ∷ setting_rule (codes "splits")
          ∷ setting_rule (codes "nesting") ∷ [];
      given = solve_of;
    }
    ∷ record {
      name = codes "eval";
      rules = values_rule (codes "parameter") ∷ [];
      given = eval_of;
    }
    ∷ record {
      name = codes "simplify";
      rules = needed_rule (codes "parameters") ∷ [];
      given = counted_of Simplify;
    }
    ∷ record {
      name = codes "check";
      rules = [];
      given = λ rows. Some CheckAll;
    }
    ∷ record {
      name = codes "share";
      rules = [];
      given = λ rows. Some ShareAll;
    }
    ∷ record {
      name = codes "trial";
      rules = needed_rule (codes "seed") ∷ needed_rule (codes "count") ∷ [];
      given = trial_of;
    }
    ∷ record {
      name = codes "pieces";
      rules = needed_rule (codes "parameters") ∷ [];
      given = counted_of Pieces;
    }
    ∷ record {
      name = codes "restrict";
      rules = needed_rule (codes "parameters") ∷ setting_rule (codes "pivots") ∷ setting_rule (codes "cuts") ∷ [];
      given = walked_of Restrict;
    }
    ∷ record {
      name = codes "same";
      rules = needed_rule (codes "parameters") ∷ setting_rule (codes "pivots") ∷ setting_rule (codes "cuts")
          ∷ setting_rule (codes "splits") ∷ [];
      given = walked_of Same;
    }
    ∷ record {
      name = codes "least";
      rules = needed_rule (codes "parameters") ∷ setting_rule (codes "pivots") ∷ setting_rule (codes "cuts")
          ∷ setting_rule (codes "splits") ∷ setting_rule (codes "nesting") ∷ [];
      given = walked_of Least;
    }
    ∷ []

-- the program with these commands
abbrev pub pip_app : App
pip_app = fold with_subcommand bare_app (map (λ s. command_with s.name s.rules) spellings)

abbrev pub named_in : Text → List Row → List Spelling → Option Command
named_in name rows [] = None
named_in name rows (s ∷ ss) = if bytes_eq name s.name then s.given rows else named_in name rows ss

-- the command of this name
abbrev pub command_named : Text → List Row → Option Command
command_named name rows = named_in name rows spellings

abbrev pub command_in : Option (Text × List Row) → Option Command
command_in None = None
command_in (Some found) = command_named found.0 found.1

-- there is no fault
abbrev pub is_accepted : Kinds → Bool
is_accepted [] = true
is_accepted (kind ∷ kinds) = false

-- the command that the words give, if any; the first word is the program's name
abbrev pub command_of : List Text → Option Command
command_of words = if is_accepted (fault_of pip_app words) then command_in (subcommand_of pip_app words) else None

abbrev pub command_given : Vec (String Global) Global → Option Command
command_given words = command_of (map string_bytes words.items)

-- ---- what is read

-- what is read, seen by `view`, is what the words give, and they give nothing where they are refused; nothing is
-- said of want of memory
abbrev pub Gives : {X Y : Type 0} → (X → Y) → Option Y → Result X WordsRefusal → Type 0
Gives view wanted (Ok x) = wanted ≡ Some (view x)
Gives view wanted (Err refusal.Usage) = wanted ≡ None
Gives view wanted (Err refusal.WantOfMemory) = ⊤
