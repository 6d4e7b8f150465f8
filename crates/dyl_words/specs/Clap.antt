-- The commands that `clap` is given, and what its matches hold.
-- Serves the contracts of this crate, which follow Words of `dyl_words`.
use Rattle.std.specs.Prelude.{cond, Bool, true, false, map, List, [], ◌∷◌, Option, Some, None, codes}
use Rattle.std.specs.Str.{bytes_eq}
use Rattle.std.specs.Borrow.{Bor}
use Rattle.clap.specs.Words.{App, Row, Rule, new_app, new_rule, with_rule}
use Rattle.clap.specs.Simple.{new_shape}
use Rattle.clap.specs.Kinds.{Kinds}
use Rattle.clap.specs.declared.builder.ArgAction.TheVariants.{Append}
use Rattle.dyl_words.specs.declared.names.CommandName.{CommandName}
use Rattle.dyl_words.specs.declared.names.OptionName.{OptionName}
use Rattle.dyl_words.specs.Forms.{Text, Form, ends, option, plain, stray, form_of}
use Rattle.dyl_words.specs.Words.{command_word, option_word, options_of, is_flag, yes, Asked, asked_by}

abbrev pub words_arg : Rule
words_arg = record (new_rule (codes "words")) { action = Some Append }

abbrev pub value_arg : Text → Rule
value_arg id = record (new_rule id) { long = Some id; action = Some Append }

abbrev pub flag_arg : Text → Rule
flag_arg id = record (new_rule id) { long = Some id; action = Some Append; range = Some (record { start_inclusive = 0; end_inclusive = 0 }); missing = yes ∷ [] }

abbrev pub option_arg : OptionName → Rule
option_arg o = cond (is_flag o) (flag_arg (option_word o)) (value_arg (option_word o))

abbrev pub with_options : List OptionName → App → App
with_options [] a = a
with_options (o ∷ os) a = with_options os (with_rule a (option_arg o))

abbrev pub plain_app : Text → App
plain_app name = with_rule (record (new_app name) { top = record (new_shape name) { disable_help_flag = true } }) words_arg

abbrev pub app : CommandName → App
app command = with_options (options_of command) (plain_app (command_word command))

-- there is no kind of error
abbrev pub no_kinds : Kinds → Bool
no_kinds [] = true
no_kinds (k ∷ ks) = false

-- the values under an id, of all its uses
abbrev pub vals : Text → List Row → List Text
vals id [] = []
vals id (r ∷ rs) = cond (bytes_eq r.id id) r.values (vals id rs)

-- the texts of a list that may be missing
abbrev pub texts_in : Option (Bor (List (Bor Text))) → List Text
texts_in None = []
texts_in (Some s) = map (λ t. t.now) s.now

-- a word before the first `--` begins with exactly one hyphen
abbrev pub is_stray_first : Form → Bool → Bool
is_stray_first ends rest = false
is_stray_first (option name value) rest = rest
is_stray_first stray rest = true
is_stray_first plain rest = rest

abbrev pub has_stray : List Text → Bool
has_stray [] = false
has_stray (word ∷ words) = is_stray_first (form_of word) (has_stray words)

-- the word begins with exactly one hyphen
abbrev pub is_stray : Text → Bool
is_stray word = is_stray_first (form_of word) false

-- the plain words, and the values of each option, in these matches
abbrev pub words_in : List Row → List Text
words_in rows = vals (codes "words") rows

abbrev pub values_in : List Row → OptionName → List Text
values_in rows o = vals (option_word o) rows

abbrev pub asked_in_rows : CommandName → List Row → Option Asked
asked_in_rows command rows = asked_by command (words_in rows) (values_in rows)
