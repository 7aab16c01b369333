-- Commands and their arguments, as clap's contracts see them.
use Rattle.std.specs.Prelude.{true, List, Some, codes, fold}
use Rattle.clap.specs.Words.{App, Shape, Rule, Text, new_app, new_rule, with_rule, with_subcommand}
use Rattle.clap.specs.Lexer.{usize_max}
use Rattle.clap.specs.declared.builder.ArgAction.TheVariants.{SetTrue}
use Rattle.pip_words.specs.declared.arguments.Argument.{Argument}
use Rattle.pip_words.specs.declared.arguments.Argument.TheVariants as given
use Rattle.pip_words.specs.declared.arguments.Entry.{Entry}

-- `--NAME`
abbrev pub flag_rule : Text → Rule
flag_rule name = record (new_rule name) { long = Some name; action = Some SetTrue }

-- `--NAME VALUE`
abbrev pub setting_rule : Text → Rule
setting_rule name = record (new_rule name) { long = Some name }

-- a required value
abbrev pub needed_rule : Text → Rule
needed_rule name = record (new_rule name) { required = true }

-- any number of values
abbrev pub values_rule : Text → Rule
values_rule name = record (new_rule name) { range = Some (record { start_inclusive = 0; end_inclusive = usize_max }) }

-- the rule of an argument
abbrev pub rule_given : Argument → Rule
rule_given (given.Flag name) = flag_rule name.now
rule_given (given.Setting name) = setting_rule name.now
rule_given (given.Needed name) = needed_rule name.now
rule_given (given.Values name) = values_rule name.now

-- a command with one argument more
abbrev pub with_argument : App → Argument → App
with_argument a x = with_rule a (rule_given x)

-- an entry as a program of its own
abbrev pub app_given : Entry → App
app_given e = fold with_argument (new_app e.name.now) e.arguments.now

abbrev pub shape_given : Entry → Shape
shape_given e = (app_given e).top

-- a program with one command more
abbrev pub with_entry : App → Entry → App
with_entry a e = with_subcommand a (shape_given e)

-- a command of this name with these rules
abbrev pub command_with : Text → List Rule → Shape
command_with name rules = (fold with_rule (new_app name) rules).top

-- the program, of which a command is required
abbrev pub bare_app : App
bare_app = record (new_app (codes "pip")) { top = record (new_app (codes "pip")).top { subcommand_required = true } }
