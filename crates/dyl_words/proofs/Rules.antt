-- What `clap` makes of the arguments of a command.
use Rattle.std.proofs.Common.{◌≡◌, Bool, true, false, not, List, [], ◌∷◌, Some, is_some, codes, refl, sym, ap, ◌∙◌, ◌&&◌, ◌||◌, cond, map, find, option_map, unwrap_or, true≢false}
use lib.Pointwise.{bytes_decides}
use Rattle.std.specs.Str.{bytes_eq}
use Rattle.dyl_words.specs.declared.names.CommandName.{CommandName}
use Rattle.dyl_words.specs.declared.names.CommandName.TheVariants.{Merge, Run, Exec, Plan, Gen, Trace, Replay, Snap, Board}
use Rattle.dyl_words.specs.declared.names.OptionName.{OptionName}
use Rattle.dyl_words.specs.declared.names.OptionName.TheVariants.{Dl, Path, Pages, Stack, NoDuplicates, Steps, Slice, Turns, One}
use Rattle.dyl_words.specs.Words.{option_word, option_named, is_flag}
use Rattle.dyl_words.specs.Clap.{app, words_arg, value_arg, flag_arg}
use Rattle.clap.specs.Words.{Rule, Text}
use Rattle.clap.specs.Simple.{Shape, new_shape, is_simple}
use Rattle.clap.specs.Walk.{arg_by_id, arg_by_long, has_long}
use Rattle.clap.specs.Faults.{is_simple_and_free}
use Rattle.clap.specs.declared.builder.value_parser.ValueParser.TheVariants as vp

abbrev pub words_rule : Rule
words_rule = record words_arg { index = Some 1; parser = Some vp.String; range = Some (record { start_inclusive = 1; end_inclusive = 1 }) }

abbrev pub value_rule : Text → Rule
value_rule id = record (value_arg id) { parser = Some vp.String; range = Some (record { start_inclusive = 1; end_inclusive = 1 }) }

abbrev pub flag_rule : Text → Rule
flag_rule id = record (flag_arg id) { parser = Some vp.String }

abbrev pub option_rule : OptionName → Rule
option_rule o = cond (is_flag o) (flag_rule (option_word o)) (value_rule (option_word o))

abbrev pub rules_of : List OptionName → List Rule
rules_of known = words_rule ∷ map option_rule known

abbrev pub shape : Text → List Rule → Shape
shape name rules = record (new_shape name) { disable_help_flag = true; disable_help_subcommand = true; rules = rules; is_built = true }

pub simple : (c : CommandName) → is_simple_and_free (app c) ≡ true
simple Merge = refl
simple Run = refl
simple Exec = refl
simple Plan = refl
simple Gen = refl
simple Trace = refl
simple Replay = refl
simple Snap = refl
simple Board = refl

pub simple_is : (c : CommandName) → is_simple (app c) ≡ true
simple_is Merge = refl
simple_is Run = refl
simple_is Exec = refl
simple_is Plan = refl
simple_is Gen = refl
simple_is Trace = refl
simple_is Replay = refl
simple_is Snap = refl
simple_is Board = refl

-- ---- the rule of an option

id_is : (p : OptionName) (id : Text) → bytes_eq (option_rule p).id id ≡ bytes_eq (option_word p) id
id_is Dl id = refl
id_is Path id = refl
id_is Pages id = refl
id_is Stack id = refl
id_is NoDuplicates id = refl
id_is Steps id = refl
id_is Slice id = refl
id_is Turns id = refl
id_is One id = refl

or_false : (b : Bool) → (b || false) ≡ b
or_false true = refl
or_false false = refl

long_is : (p : OptionName) (name : Text) → (not (is_some (option_rule p).index) && has_long (option_rule p) name) ≡ bytes_eq (option_word p) name
long_is Dl name = or_false _
long_is Path name = or_false _
long_is Pages name = or_false _
long_is Stack name = or_false _
long_is NoDuplicates name = or_false _
long_is Steps name = or_false _
long_is Slice name = or_false _
long_is Turns name = or_false _
long_is One name = or_false _

pub words_differ : (o : OptionName) → bytes_eq (codes "words") (option_word o) ≡ false
words_differ Dl = refl
words_differ Path = refl
words_differ Pages = refl
words_differ Stack = refl
words_differ NoDuplicates = refl
words_differ Steps = refl
words_differ Slice = refl
words_differ Turns = refl
words_differ One = refl

-- the first rule that passes a test which holds of the option of a name
find_by : (test : Rule → Bool) (name : Text) → ((p : OptionName) → test (option_rule p) ≡ bytes_eq (option_word p) name) → (known : List OptionName)
    → find test (map option_rule known) ≡ option_map option_rule (option_named known name)
find_by test name tells [] = refl
find_by test name tells (p ∷ ps) = by (bytes_eq (option_word p) name) refl (find_by test name tells ps)
  where
    by : (b : Bool) → bytes_eq (option_word p) name ≡ b → find test (map option_rule ps) ≡ option_map option_rule (option_named ps name)
        → find test (map option_rule (p ∷ ps)) ≡ option_map option_rule (option_named (p ∷ ps) name)
    by true h rest = ap (λ t. cond t (Some (option_rule p)) (find test (map option_rule ps))) (tells p ∙ h)
        ∙ ap (λ t. option_map option_rule (cond t (Some p) (option_named ps name))) (sym h)
    by false h rest = ap (λ t. cond t (Some (option_rule p)) (find test (map option_rule ps))) (tells p ∙ h) ∙ rest
        ∙ ap (λ t. option_map option_rule (cond t (Some p) (option_named ps name))) (sym h)

pub long_found : (known : List OptionName) (name : Text) → arg_by_long (rules_of known) name ≡ option_map option_rule (option_named known name)
long_found known name = find_by (λ a. not (is_some a.index) && has_long a name) name (λ p. long_is p name) known

found_word : (known : List OptionName) (name : Text) (o : OptionName) → option_named known name ≡ Some o → option_word o ≡ name
found_word [] name o e = absurd (true≢false (sym (ap is_some e)))
found_word (p ∷ ps) name o e = by (bytes_eq (option_word p) name) refl (found_word ps name o)
  where
    by : (b : Bool) → bytes_eq (option_word p) name ≡ b → (option_named ps name ≡ Some o → option_word o ≡ name) → option_word o ≡ name
    by true h rest = ap option_word (sym (ap (λ x. unwrap_or x o) (ap (λ t. cond t (Some p) (option_named ps name)) (sym h) ∙ e))) ∙ (bytes_decides (option_word p) name).0 h
    by false h rest = rest (ap (λ t. cond t (Some p) (option_named ps name)) (sym h) ∙ e)

pub id_found : (known : List OptionName) (name : Text) (o : OptionName) → option_named known name ≡ Some o → arg_by_id (rules_of known) (option_word o) ≡ Some (option_rule o)
id_found known name o e = ap (λ t. cond t (Some words_rule) (arg_by_id (map option_rule known) (option_word o))) (words_differ o)
    ∙ find_by (λ a. bytes_eq a.id (option_word o)) (option_word o) (λ p. id_is p (option_word o)) known
    ∙ ap (λ w. option_map option_rule (option_named known w)) (found_word known name o e)
    ∙ ap (option_map option_rule) e

pub option_differs : (o : OptionName) → bytes_eq (option_word o) (codes "words") ≡ false
option_differs Dl = refl
option_differs Path = refl
option_differs Pages = refl
option_differs Stack = refl
option_differs NoDuplicates = refl
option_differs Steps = refl
option_differs Slice = refl
option_differs Turns = refl
option_differs One = refl
