-- What a word before `--` looks like.
-- This profile: docs/FORMATS.md, "Options".
use Rattle.std.specs.Prelude.{ℕ, ◌==◌, Bool, List, [], ◌∷◌, Option, Some, None, is_some, if◌then◌else◌}
use Rattle.std.specs.List.{list_any, before_first, after_first}

abbrev pub Text : Type 0
Text = List ℕ

-- what follows a first hyphen
abbrev pub after_hyphen : Text → Option Text
after_hyphen [] = None
after_hyphen (b ∷ bs) = if b == 0x2D then Some bs else None

abbrev pub begins_with_hyphen : Text → Bool
begins_with_hyphen word = is_some (after_hyphen word)

-- `--` itself, `--name` or `--name=value`, a word that begins with exactly one hyphen, or another one
pub data Form : Type 0 where
  ends : Form
  option : Text → Option Text → Form
  stray : Form
  plain : Form

abbrev pub is_equals : ℕ → Bool
is_equals b = b == 0x3D

-- what stands behind the first `=`, if there is one
abbrev pub attached : Text → Option Text
attached text = if list_any is_equals text then Some (after_first is_equals text) else None

-- by what follows two hyphens
abbrev pub option_form : Text → Form
option_form [] = ends
option_form (b ∷ bs) = option (before_first is_equals (b ∷ bs)) (attached (b ∷ bs))

abbrev pub second_form : Option Text → Form
second_form None = stray
second_form (Some rest) = option_form rest

abbrev pub first_form : Option Text → Form
first_form None = plain
first_form (Some rest) = second_form (after_hyphen rest)

abbrev pub form_of : Text → Form
form_of word = first_form (after_hyphen word)
