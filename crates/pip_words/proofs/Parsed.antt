-- From clap's clauses to the command that the words give.
use Rattle.pip_words.proofs.Words.{◌≡◌, ◌∙◌, refl, sym, subst, ap, ap₂, true, cond, List, [], ◌∷◌, Option, None, inl, inr, App, HasKind, HasMatchesOf, IsAmong, Kinds, Text, fault_of, is_simple, is_simple_and_free, kind_of, subcommand_of, subcommand_rows_of, rows_of, found_of, matches_of, Bool, false, ◌&&◌, Command, pip_app, command_of, command_in, command_named, is_accepted, built, command_alone}
use Rattle.clap.specs.Faults.{is_free_app}
use Rattle.clap.specs.declared.ArgMatches.{ArgMatches}
use Rattle.clap.specs.declared.Error.{Error}
use Rattle.clap.specs.declared.error.ErrorKind.{ErrorKind}
use Rattle.clap.specs.declared.error.ErrorKind.TheVariants as kind

is_free : is_simple_and_free pip_app ≡ true
is_free = refl

simple : is_simple pip_app ≡ true
simple = refl

no_fault : (ks : Kinds) (o : Option Command) → ks ≡ [] → cond (is_accepted ks) o None ≡ o
no_fault [] o e = refl
no_fault (k ∷ ks) o e = cc

fault : (ks : Kinds) (o : Option Command) (k : ErrorKind) → IsAmong k ks → cond (is_accepted ks) o None ≡ None
fault [] o k h = absurd h
fault (x ∷ ks) o k h = refl

pub accepted : (a : App) (ws vs : List Text) (m : ArgMatches) → a ≡ pip_app → vs ≡ ws
    → (is_simple_and_free a ≡ true → fault_of a vs ≡ []) → HasMatchesOf a vs m
    → command_of ws ≡ command_in (subcommand_rows_of m)
accepted a ws vs m app words fails has =
    no_fault (fault_of pip_app ws) (command_in (subcommand_of pip_app ws))
    (ap₂ fault_of (sym app) (sym words) ∙ fails (ap is_simple_and_free app ∙ is_free))
    ∙ ap command_in (ap₂ subcommand_of (sym app) (sym words) ∙ sym ((has (ap is_simple app ∙ simple)).1))

pub refused : (a : App) (ws vs : List Text) (e : Error) → a ≡ pip_app → vs ≡ ws
    → (is_simple_and_free a ≡ true → HasKind (fault_of a vs) e) → (kind_of e ≡ kind.OutOfMemory → ⊥)
    → command_of ws ≡ None
refused a ws vs e app words fails other = elim (fails (ap is_simple_and_free app ∙ is_free)) [
  | inl h ↦ absurd (other h)
  | inr h ↦ fault (fault_of pip_app ws) (command_in (subcommand_of pip_app ws)) (kind_of e)
      (subst (IsAmong (kind_of e)) (ap₂ fault_of app words) h)
]

both : (s t : Bool) → s && t ≡ true → s ≡ true
both true t h = refl
both false t h = h

-- the same of a program that has a command's arguments for its own
pub accepted_alone : (a b : App) (name : Text) (ws : List Text) (m : ArgMatches) → b ≡ a → is_simple_and_free a ≡ true
    → (is_simple_and_free b ≡ true → fault_of b ws ≡ []) → HasMatchesOf b ws m
    → command_alone a name ws ≡ command_named name (rows_of (found_of m))
accepted_alone a b name ws m app free fails has =
    let b_free = ap is_simple_and_free app ∙ free in
    let b_simple = both (is_simple b) (is_free_app (built b)) b_free in
    no_fault (fault_of a ws) (command_named name (matches_of a ws)) (ap (λ (x : App). fault_of x ws) (sym app) ∙ fails b_free)
    ∙ ap (command_named name) (ap (λ (x : App). matches_of x ws) (sym app) ∙ sym ((has b_simple).0))

pub refused_alone : (a b : App) (name : Text) (ws : List Text) (e : Error) → b ≡ a → is_simple_and_free a ≡ true
    → (is_simple_and_free b ≡ true → HasKind (fault_of b ws) e) → (kind_of e ≡ kind.OutOfMemory → ⊥)
    → command_alone a name ws ≡ None
refused_alone a b name ws e app free fails other = elim (fails (ap is_simple_and_free app ∙ free)) [
  | inl h ↦ absurd (other h)
  | inr h ↦ fault (fault_of a ws) (command_named name (matches_of a ws)) (kind_of e)
      (subst (λ (x : App). IsAmong (kind_of e) (fault_of x ws)) app h)
]
