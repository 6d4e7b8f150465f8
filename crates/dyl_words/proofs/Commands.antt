-- What `clap` answers for a command.
use Rattle.std.proofs.Common.{◌≡◌, Bool, true, false, List, [], ◌∷◌, None, codes, refl, ap, ap₂, ◌∙◌, ◌||◌, ◌&&◌, not, cond, fold, map, ◌⊎◌, inl, inr, Result, Ok, Err, IfErr, IfOk, OnOk}
use Rattle.std.specs.List.{list_any}
use Rattle.dyl_words.specs.declared.names.CommandName.{CommandName}
use Rattle.dyl_words.specs.declared.names.CommandName.TheVariants.{Merge, Run, Exec, Plan, Gen, Trace, Replay, Snap, Board}
use Rattle.dyl_words.specs.declared.names.OptionName.{OptionName}
use Rattle.dyl_words.specs.Words.{command_word, option_word, options_of, is_flag, given}
use Rattle.dyl_words.specs.Clap.{app, no_kinds, has_stray}
use Rattle.dyl_words.proofs.Rules.{value_rule, flag_rule, option_rule, rules_of, long_found, id_found, simple_is}
use Rattle.dyl_words.proofs.Walks.{nothing, walk_at}
use Rattle.dyl_words.proofs.Runs.{Agrees, ArePlain, kinds_of, rows_of, other_answer, runs}
use Rattle.clap.specs.Words.{Row, Rule, Text, HasMatchesOf, fault_of, matches_of}
use Rattle.clap.specs.Words.{rows_of as rows_in}
use Rattle.clap.specs.Matches.{found_of}
use Rattle.clap.specs.declared.parser.matches.ArgMatches.{ArgMatches}
use Rattle.clap.specs.Simple.{built}
use Rattle.clap.specs.Walk.{with_default, has_row}
use Rattle.clap.specs.Takes.{is_given}
use Rattle.clap.specs.Faults.{defaults_fault, default_fault}
use Rattle.clap.specs.Kinds.{Kinds, or_else, check_kinds, IsAmong, FailsBy}
use Rattle.clap.specs.Values.{kind_of}
use Rattle.clap.specs.declared.error.Error.{Error}
use Rattle.clap.specs.declared.error.kind.ErrorKind.{ErrorKind}
use Rattle.clap.specs.declared.error.kind.ErrorKind.TheVariants.{OutOfMemory}

same_both : {A : Type 0} (b : Bool) (x : A) → cond b x x ≡ x
same_both true x = refl
same_both false x = refl

no_default : (b : Bool) (ks : Kinds) → cond (b || true) [] ks ≡ []
no_default true ks = refl
no_default false ks = refl

abbrev rule_by : Bool → Text → Rule
rule_by b w = cond b (flag_rule w) (value_rule w)

stays : (rows : List Row) (b : Bool) (w : Text) → with_default rows (rule_by b w) ≡ rows
stays rows true w = same_both (has_row w rows) rows
stays rows false w = same_both (has_row w rows) rows

passes : (rows : List Row) (b : Bool) (w : Text) → default_fault rows (rule_by b w) ≡ []
passes rows true w = no_default (has_row w rows) _
passes rows false w = no_default (has_row w rows) _

all_stay : (rows : List Row) (known : List OptionName) → fold with_default rows (map option_rule known) ≡ rows
all_stay rows [] = refl
all_stay rows (o ∷ os) = ap (λ rs. fold with_default rs (map option_rule os)) (stays rows (is_flag o) (option_word o)) ∙ all_stay rows os

all_pass : (rows : List Row) (known : List OptionName) → defaults_fault rows (map option_rule known) ≡ []
unfolding defaults_fault
all_pass rows [] = refl
all_pass rows (o ∷ os) = ap₂ (λ k rs. or_else k (defaults_fault rs (map option_rule os))) (passes rows (is_flag o) (option_word o)) (stays rows (is_flag o) (option_word o)) ∙ all_pass rows os

not_wanted : (test : Rule → Bool) → ((b : Bool) (w : Text) → test (rule_by b w) ≡ false) → (known : List OptionName) → list_any test (map option_rule known) ≡ false
not_wanted test h [] = refl
not_wanted test h (o ∷ os) = ap₂ (λ a b. a || b) (h (is_flag o) (option_word o)) (not_wanted test h os)

optional : (rows : List Row) (b : Bool) (w : Text) → ((rule_by b w).required && not (is_given (rule_by b w).id rows)) ≡ false
optional rows true w = refl
optional rows false w = refl

words_pass : (known : List OptionName) (rows : List Row) → defaults_fault rows (rules_of known) ≡ []
unfolding defaults_fault
words_pass known rows = ap₂ (λ k rs. or_else k (defaults_fault rs (map option_rule known))) (no_default (has_row (codes "words") rows) _) (same_both (has_row (codes "words") rows) rows) ∙ all_pass rows known

are_plain : (name : Text) (known : List OptionName) → ArePlain name (rules_of known)
are_plain name known = record {
  stay = λ rows. ap (λ rs. fold with_default rs (map option_rule known)) (same_both (has_row (codes "words") rows) rows) ∙ all_stay rows known;
  defaults = words_pass known;
  checks = λ rows. ap (check_kinds false false) (not_wanted (λ a. a.required && not (is_given a.id rows)) (optional rows) known);
}

module _ (name : Text) (ts : List Text) where
  kinds_are : (c : CommandName) → kinds_of (built (app c)) (command_word c) (rules_of (options_of c)) (walk_at [] nothing false) ts ≡ fault_of (app c) (name ∷ ts)
  kinds_are Merge = refl
  kinds_are Run = refl
  kinds_are Exec = refl
  kinds_are Plan = refl
  kinds_are Gen = refl
  kinds_are Trace = refl
  kinds_are Replay = refl
  kinds_are Snap = refl
  kinds_are Board = refl

  rows_are : (c : CommandName) → rows_of (built (app c)) (command_word c) (rules_of (options_of c)) (walk_at [] nothing false) ts ≡ matches_of (app c) (name ∷ ts)
  rows_are Merge = refl
  rows_are Run = refl
  rows_are Exec = refl
  rows_are Plan = refl
  rows_are Gen = refl
  rows_are Trace = refl
  rows_are Replay = refl
  rows_are Snap = refl
  rows_are Board = refl

  pub answers : (c : CommandName) → has_stray ts ≡ false → Agrees (fault_of (app c) (name ∷ ts)) (matches_of (app c) (name ∷ ts)) [] (λ p. []) (given (options_of c) None ts)
  answers c o = other_answer _ _ _ _ [] (λ p. []) (given (options_of c) None ts) (kinds_are c) (rows_are c)
      (runs (built (app c)) (command_word c) (rules_of (options_of c)) (record { index = refl; words = refl }) (are_plain (command_word c) (options_of c)) (options_of c)
      (λ n. (long_found (options_of c) n, id_found (options_of c) n)) ts o [] nothing tt)

among : (k : ErrorKind) (ks : Kinds) → IsAmong k ks → no_kinds ks ≡ false
among k [] h = absurd h
among k (x ∷ xs) h = refl

-- an error that doesn't come from want of memory is one of these kinds
pub by_kinds : {T : Type 0} (r : Result T Error) (ks : Kinds) → FailsBy ks r → IfErr r (λ e. (kind_of e ≡ OutOfMemory) ⊎ (no_kinds ks ≡ false))
by_kinds (Ok x) ks h = tt
by_kinds (Err e) ks (inl h) = inl h
by_kinds (Err e) ks (inr h) = inr (among (kind_of e) ks h)

pub passes_by : {T : Type 0} (r : Result T Error) (ks : Kinds) → FailsBy ks r → OnOk r (ks ≡ [])
passes_by (Ok x) ks h = h
passes_by (Err e) ks h = tt

pub rows_by : (c : CommandName) (r : Result ArgMatches Error) (ws : List Text) → IfOk r (HasMatchesOf (app c) ws) → IfOk r (λ m. rows_in (found_of m) ≡ matches_of (app c) ws)
rows_by c (Ok m) ws h = (h (simple_is c)).0
rows_by c (Err e) ws h = tt
