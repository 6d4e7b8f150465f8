-- How the words after a command are read.
-- This profile: docs/FORMATS.md, "Options".
use Rattle.std.specs.Prelude.{◌≡◌, ℕ, ◌==◌, Bool, true, false, ◌&&◌, ◌||◌, nat_le, List, [], ◌∷◌, map, length, find, Option, Some, None, is_some, option_and_then, option_map, codes, if◌then◌else◌}
use Rattle.std.specs.List.{list_any, list_all, filter}
use Rattle.std.specs.Str.{bytes_eq}
use Rattle.dyl_words.specs.Forms.{Text, Form, ends, option, plain, stray, form_of, begins_with_hyphen}
use Rattle.dyl_words.specs.declared.names.CommandName.{CommandName}
use Rattle.dyl_words.specs.declared.names.CommandName.TheVariants.{Merge, Run, Exec, Plan, Gen, Trace, Replay, Snap, Board}
use Rattle.dyl_words.specs.declared.names.OptionName.{OptionName}
use Rattle.dyl_words.specs.declared.names.OptionName.TheVariants.{Dl, Path, Pages, Stack, NoDuplicates, Steps, Slice, Turns, One}

-- ---- commands and their options

abbrev pub command_word : CommandName → Text
command_word Merge = codes "merge"
command_word Run = codes "run"
command_word Exec = codes "exec"
command_word Plan = codes "plan"
command_word Gen = codes "gen"
command_word Trace = codes "trace"
command_word Replay = codes "replay"
command_word Snap = codes "snap"
command_word Board = codes "board"

abbrev pub commands : List CommandName
commands = Merge ∷ Run ∷ Exec ∷ Plan ∷ Gen ∷ Trace ∷ Replay ∷ Snap ∷ Board ∷ []

abbrev pub command_named : Text → Option CommandName
command_named word = find (λ c. bytes_eq word (command_word c)) commands

-- without the two hyphens before it
abbrev pub option_word : OptionName → Text
option_word Dl = codes "dl"
option_word Path = codes "path"
option_word Pages = codes "pages"
option_word Stack = codes "stack"
option_word NoDuplicates = codes "no-duplicates"
option_word Steps = codes "steps"
option_word Slice = codes "slice"
option_word Turns = codes "turns"
option_word One = codes "one"

abbrev pub options : List OptionName
options = Dl ∷ Path ∷ Pages ∷ Stack ∷ NoDuplicates ∷ Steps ∷ Slice ∷ Turns ∷ One ∷ []

-- the option has no value
abbrev pub is_flag : OptionName → Bool
is_flag NoDuplicates = true
is_flag One = true
is_flag _ = false

abbrev pub set_options : List OptionName
set_options = Dl ∷ Path ∷ Pages ∷ Stack ∷ NoDuplicates ∷ []

abbrev pub run_options : List OptionName
run_options = Dl ∷ Path ∷ Pages ∷ Stack ∷ NoDuplicates ∷ Steps ∷ []

abbrev pub trace_options : List OptionName
trace_options = Dl ∷ Path ∷ Pages ∷ Stack ∷ NoDuplicates ∷ Steps ∷ One ∷ []

abbrev pub options_of : CommandName → List OptionName
options_of Merge = set_options
options_of Run = run_options
options_of Exec = Steps ∷ []
options_of Plan = set_options
options_of Gen = Pages ∷ Steps ∷ []
options_of Trace = trace_options
options_of Replay = trace_options
options_of Snap = run_options
options_of Board = Pages ∷ Stack ∷ Steps ∷ Slice ∷ Turns ∷ []

abbrev pub option_named : List OptionName → Text → Option OptionName
option_named known word = find (λ o. bytes_eq (option_word o) word) known

-- so many plain words are taken: MAIN and OUT, MAIN alone, a path and arguments, a number, MAIN and OUT and arguments, TRACE and MAIN, or up to 64
-- MAINs
abbrev pub takes_plain : CommandName → ℕ → Bool
takes_plain Merge n = n == 2
takes_plain Run n = nat_le 1 n
takes_plain Exec n = nat_le 1 n
takes_plain Plan n = n == 1
takes_plain Gen n = n == 1
takes_plain Trace n = nat_le 2 n
takes_plain Replay n = n == 2
takes_plain Snap n = n == 2
takes_plain Board n = nat_le 1 n && nat_le n 64

-- ---- what words give

-- the plain words, and the uses of options with their values, in order
pub record Given : Type 0 where
  pub plain : List Text
  pub uses : List (OptionName × Text)

abbrev pub plain_alone : List Text → Given
plain_alone words = record { plain = words; uses = [] }

abbrev pub with_plain : Text → Given → Given
with_plain word g = record g { plain = word ∷ g.plain }

abbrev pub with_use : OptionName → Text → Given → Given
with_use o value g = record g { uses = (o, value) ∷ g.uses }

-- what stands for the value of a flag that is given
abbrev pub yes : Text
yes = codes "yes"

-- an option without an attached value, which a flag has not and another one awaits; `rest` is what the words after it give, by what awaits a
-- value there
abbrev pub at_bare : OptionName → (Option OptionName → Option Given) → Option Given
at_bare o rest = if is_flag o then option_map (with_use o yes) (rest None) else rest (Some o)

abbrev pub at_attached : OptionName → Text → (Option OptionName → Option Given) → Option Given
at_attached o value rest = if is_flag o then None else option_map (with_use o value) (rest None)

abbrev pub at_option : Option OptionName → Option Text → (Option OptionName → Option Given) → Option Given
at_option None value rest = None
at_option (Some o) None rest = at_bare o rest
at_option (Some o) (Some value) rest = at_attached o value rest

abbrev pub at_form : List OptionName → Form → Text → List Text → (Option OptionName → Option Given) → Option Given
at_form known ends word words rest = Some (plain_alone words)
at_form known (option name value) word words rest = at_option (option_named known name) value rest
at_form known stray word words rest = None
at_form known plain word words rest = option_map (with_plain word) (rest None)

-- What the words give, of which the first is the value of an option where one awaits it. The first `--` ends the options, and all words
-- after it are plain ones. None where a value is missing or begins with a hyphen as a word of its own, a flag has a value, an option is
-- unknown, or a word before `--` begins with exactly one hyphen.
abbrev pub given : List OptionName → Option OptionName → List Text → Option Given
given known None [] = Some (plain_alone [])
given known (Some o) [] = None
given known None (word ∷ words) = at_form known (form_of word) word words (λ awaits. given known awaits words)
given known (Some o) (word ∷ words) = if begins_with_hyphen word then None else option_map (with_use o word) (given known None words)

-- ---- what words ask for

abbrev pub has_zero : Text → Bool
has_zero word = list_any (λ b. b == 0) word

-- the values that an option is given
abbrev pub values_of : OptionName → List (OptionName × Text) → List Text
values_of o uses = map (λ u. u.1) (filter (λ u. bytes_eq (option_word u.0) (option_word o)) uses)

-- at most one value, and none that is empty
abbrev pub is_right : List Text → Bool
is_right [] = true
is_right ([] ∷ values) = false
is_right ((b ∷ bs) ∷ []) = true
is_right ((b ∷ bs) ∷ value ∷ values) = false

abbrev pub first_of : List Text → Option Text
first_of [] = None
first_of (value ∷ values) = Some value

-- What is asked for: the plain words, and the values of the options that are given.
pub record Asked : Type 0 where
  pub plain : List Text
  pub dl : Option Text
  pub path : Option Text
  pub pages : Option Text
  pub stack : Option Text
  pub no_duplicates : Bool
  pub steps : Option Text
  pub slice : Option Text
  pub turns : Option Text
  pub one : Bool

-- by the plain words, and the values of each option
abbrev pub asked_of : List Text → (OptionName → List Text) → Asked
asked_of words values = record {
  plain = words;
  dl = first_of (values Dl);
  path = first_of (values Path);
  pages = first_of (values Pages);
  stack = first_of (values Stack);
  no_duplicates = is_some (first_of (values NoDuplicates));
  steps = first_of (values Steps);
  slice = first_of (values Slice);
  turns = first_of (values Turns);
  one = is_some (first_of (values One));
}

-- an option of a set stands beside `--one`
abbrev pub mixes : Asked → Bool
mixes a = a.one && (is_some a.dl || is_some a.path || is_some a.pages || is_some a.stack || a.no_duplicates)

abbrev pub unmixed : Asked → Option Asked
unmixed a = if mixes a then None else Some a

-- no plain word is missing or too many, no option is given twice, no value is empty, and no option of a set stands beside `--one`
abbrev pub asked_by : CommandName → List Text → (OptionName → List Text) → Option Asked
asked_by command words values = if takes_plain command (length words) && list_all (λ o. is_right (values o)) options then unmixed (asked_of words values) else None

abbrev pub asked_in : CommandName → Given → Option Asked
asked_in command g = asked_by command g.plain (λ o. values_of o g.uses)

-- what the words after the command ask for; None where they are wrong
abbrev pub asked : CommandName → List Text → Option Asked
asked command words = if list_any has_zero words then None else option_and_then (asked_in command) (given (options_of command) None words)

-- the value of an option has a zero character
abbrev pub some_has_zero : Option Text → Bool
some_has_zero None = false
some_has_zero (Some value) = has_zero value

-- no word, no list of names and no list of directories has a zero character
abbrev pub IsZeroFree : Asked → Type 0
IsZeroFree a = (list_any has_zero a.plain ≡ false) × (some_has_zero a.dl ≡ false) × (some_has_zero a.path ≡ false)
