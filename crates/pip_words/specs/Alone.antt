-- A command as a program of its own, whose words begin with the command's name. No meaning cites this.
use Rattle.std.specs.Prelude.{List, Option, None, find, fold, if◌then◌else◌}
use Rattle.std.specs.Str.{bytes_eq}
use Rattle.clap.specs.Words.{App, Text, fault_of, matches_of, new_app, with_rule}
use Rattle.program_model.specs.Commands.{Command}
use Rattle.pip_words.specs.Words.{Spelling, spellings, command_named, is_accepted}

abbrev pub app_alone : Spelling → App
app_alone s = fold with_rule (new_app s.name) s.rules

-- the command of this name
abbrev pub spelling_named : Text → Option Spelling
spelling_named name = find (λ s. bytes_eq s.name name) spellings

-- what words give, read by a program that has the arguments of the command of this name for its own
abbrev pub command_alone : App → Text → List Text → Option Command
command_alone app name words = if is_accepted (fault_of app words) then command_named name (matches_of app words) else None
