-- One word of the walk of `clap`, over any rules.
use Rattle.std.proofs.Common.{◌≡◌, Bool, true, false, List, [], ◌∷◌, Option, Some, None, codes, refl, true≢false}
use Rattle.std.specs.Str.{bytes_eq}
use Rattle.dyl_words.specs.declared.names.OptionName.{OptionName}
use Rattle.dyl_words.specs.Words.{option_word, yes}
use Rattle.dyl_words.specs.Clap.{no_kinds}
use Rattle.dyl_words.proofs.Rules.{words_rule, value_rule, flag_rule, shape, option_differs}
use Rattle.dyl_words.proofs.Sorts.{dashes}
use Rattle.clap.specs.Words.{Row, Rule, Text}
use Rattle.clap.specs.Walk.{Walk, Held, Waiting, idle, option, positional, walked, with_values, reading_by, settled, arg_by_id, arg_by_long, arg_by_index}
use Rattle.clap.specs.declared.builder.value_parser.Reading.{Reading}
use Rattle.clap.specs.declared.parser.matches.ValueSource.TheVariants.{CommandLine}
use Rattle.clap.specs.Faults.{turn_fault, settle_fault}
use Rattle.clap.specs.Lexer.{long_of, short_of}
use Rattle.clap.proofs.OnLiterals.{clap_on_literals}

-- what the walk holds that it has not used: nothing, a plain word, the value of an option, or an option that awaits its value
pub data Holds : Type 0 where
  nothing : Holds
  word : Text → Holds
  value : OptionName → Text → Holds
  due : OptionName → Holds

abbrev pub pending_in : Holds → Option (Text × List Text)
pending_in nothing = None
pending_in (word t) = Some (codes "words", t ∷ [])
pending_in (value o v) = Some (option_word o, v ∷ [])
pending_in (due o) = Some (option_word o, [])

abbrev pub waiting_in : Holds → Waiting
waiting_in nothing = idle
waiting_in (word t) = positional
waiting_in (value o v) = idle
waiting_in (due o) = option (option_word o)

abbrev pub held_at : List Row → Holds → Held
held_at rows f = record { rows = rows; pending = pending_in f; skip = 0 }

abbrev pub walk_at : List Row → Holds → Bool → Walk
walk_at rows f e = record { held = held_at rows f; waiting = waiting_in f; position = 1; is_trailing = e; stopped = None }

abbrev pub is_due : Holds → Bool
is_due (due o) = true
is_due _ = false

abbrev pub how : Reading
how = reading_by words_rule

abbrev pub used : Text → Text → List Row → List Row
used id v rows = with_values id how CommandLine (v ∷ []) rows

-- the rows once what is held is used
abbrev pub settled_at : List Row → Holds → List Row
settled_at rows (word t) = used (codes "words") t rows
settled_at rows (value o v) = used (option_word o) v rows
settled_at rows _ = rows

-- ---- any rules of a command

pub record AreRules (rs : List Rule) : Type 0 where
  pub index : arg_by_index rs 1 ≡ Some words_rule
  pub words : arg_by_id rs (codes "words") ≡ Some words_rule

-- the option that is held is one of the command's, and takes a value
abbrev pub Known : List Rule → Holds → Type 0
Known rs (value o v) = arg_by_id rs (option_word o) ≡ Some (value_rule (option_word o))
Known rs (due o) = arg_by_id rs (option_word o) ≡ Some (value_rule (option_word o))
Known rs _ = Unit {0}

module _ (name : Text) (rs : List Rule) (are : AreRules rs) (rows : List Row) where
  -- a plain word, where no option awaits its value, and where one does
  module _ (u : Text) (p : bytes_eq u dashes ≡ false) (q : long_of u ≡ None) (r : short_of u ≡ None) where
    pub plain_walk : (f : Holds) → is_due f ≡ false → Known rs f → walked rs [] (walk_at rows f false) u ≡ walk_at (settled_at rows f) (word u) false
    unfolding clap_on_literals
    plain_walk nothing d k = rw (p, q, r, are.index) refl
    plain_walk (word t) d k = rw (p, q, r, are.index, are.words) refl
    plain_walk (value o v) d k = rw (p, q, r, are.index, k, option_differs o) refl
    plain_walk (due o) d k = absurd (true≢false d)

    pub plain_passes : (f : Holds) → is_due f ≡ false → Known rs f → turn_fault (shape name rs) [] (walk_at rows f false) u ≡ []
    unfolding clap_on_literals
    plain_passes nothing d k = rw (p, q, r, are.index) refl
    plain_passes (word t) d k = rw (p, q, r, are.index, are.words) refl
    plain_passes (value o v) d k = rw (p, q, r, are.index, k, option_differs o) refl
    plain_passes (due o) d k = absurd (true≢false d)

    pub value_walk : (o : OptionName) → Known rs (due o) → bytes_eq (option_word o) (option_word o) ≡ true → walked rs [] (walk_at rows (due o) false) u ≡ walk_at rows (value o u) false
    unfolding clap_on_literals
    value_walk o k same = rw (p, q, r, k, same) refl

    pub value_passes : (o : OptionName) → Known rs (due o) → turn_fault (shape name rs) [] (walk_at rows (due o) false) u ≡ []
    unfolding clap_on_literals
    value_passes o k = rw (p, q, r) refl

  -- `--`
  pub dashes_walk : (f : Holds) → walked rs [] (walk_at rows f false) dashes ≡ walk_at rows f true
  unfolding clap_on_literals
  dashes_walk nothing = refl
  dashes_walk (word t) = refl
  dashes_walk (value o v) = refl
  dashes_walk (due o) = refl

  pub dashes_passes : (f : Holds) → turn_fault (shape name rs) [] (walk_at rows f false) dashes ≡ []
  unfolding clap_on_literals
  dashes_passes nothing = refl
  dashes_passes (word t) = refl
  dashes_passes (value o v) = refl
  dashes_passes (due o) = refl

  -- words after `--`
  pub ended_walk : (f : Holds) (u : Text) → is_due f ≡ false → Known rs f → walked rs [] (walk_at rows f true) u ≡ walk_at (settled_at rows f) (word u) true
  unfolding clap_on_literals
  ended_walk nothing u d k = rw are.index refl
  ended_walk (word t) u d k = rw (are.index, are.words) refl
  ended_walk (value o v) u d k = rw (are.index, k, option_differs o) refl
  ended_walk (due o) u d k = absurd (true≢false d)

  pub ended_passes : (f : Holds) (u : Text) → is_due f ≡ false → Known rs f → turn_fault (shape name rs) [] (walk_at rows f true) u ≡ []
  unfolding clap_on_literals
  ended_passes nothing u d k = rw are.index refl
  ended_passes (word t) u d k = rw (are.index, are.words) refl
  ended_passes (value o v) u d k = rw (are.index, k, option_differs o) refl
  ended_passes (due o) u d k = absurd (true≢false d)

  pub ended_fault : (o : OptionName) (u : Text) → Known rs (due o) → no_kinds (turn_fault (shape name rs) [] (walk_at rows (due o) true) u) ≡ false
  unfolding clap_on_literals
  ended_fault o u k = rw (are.index, k, option_differs o) refl

  -- the end of the words
  pub end_passes : (f : Holds) → is_due f ≡ false → Known rs f → settle_fault rs false (held_at rows f) ≡ []
  end_passes nothing d k = refl
  end_passes (word t) d k = rw are.words refl
  end_passes (value o v) d k = rw k refl
  end_passes (due o) d k = absurd (true≢false d)

  pub end_fault : (o : OptionName) → Known rs (due o) → no_kinds (settle_fault rs false (held_at rows (due o))) ≡ false
  end_fault o k = rw k refl

  pub end_rows : (f : Holds) → is_due f ≡ false → Known rs f → (settled rs (held_at rows f)).rows ≡ settled_at rows f
  end_rows nothing d k = refl
  end_rows (word t) d k = rw are.words refl
  end_rows (value o v) d k = rw k refl
  end_rows (due o) d k = absurd (true≢false d)

  -- a word that looks as an option does
  module _ (u : Text) (n : Text) (p : bytes_eq u dashes ≡ false) where
    module _ (v : Option Text) (q : long_of u ≡ Some (n, v)) where
      pub unknown_fault : (f : Holds) → arg_by_long rs n ≡ None → no_kinds (turn_fault (shape name rs) [] (walk_at rows f false) u) ≡ false
      unfolding clap_on_literals
      unknown_fault nothing h = rw (p, q, h) refl
      unknown_fault (word t) h = rw (p, q, h) refl
      unknown_fault (value o w) h = rw (p, q, h) refl
      unknown_fault (due o) h = rw (p, q, h) refl

    module _ (i : Text) where
      module _ (h : arg_by_long rs n ≡ Some (flag_rule i)) where
        pub flag_walk : (f : Holds) → long_of u ≡ Some (n, None) → is_due f ≡ false → Known rs f → walked rs [] (walk_at rows f false) u ≡ walk_at (used i yes (settled_at rows f)) nothing false
        unfolding clap_on_literals
        flag_walk nothing q d k = rw (p, q, h) refl
        flag_walk (word t) q d k = rw (p, q, h, are.words) refl
        flag_walk (value o w) q d k = rw (p, q, h, k) refl
        flag_walk (due o) q d k = absurd (true≢false d)

        pub flag_passes : (f : Holds) → long_of u ≡ Some (n, None) → is_due f ≡ false → Known rs f → turn_fault (shape name rs) [] (walk_at rows f false) u ≡ []
        unfolding clap_on_literals
        flag_passes nothing q d k = rw (p, q, h) refl
        flag_passes (word t) q d k = rw (p, q, h, are.words) refl
        flag_passes (value o w) q d k = rw (p, q, h, k) refl
        flag_passes (due o) q d k = absurd (true≢false d)

        pub flag_value_fault : (f : Holds) (v : Text) → long_of u ≡ Some (n, Some v) → no_kinds (turn_fault (shape name rs) [] (walk_at rows f false) u) ≡ false
        unfolding clap_on_literals
        flag_value_fault nothing v q = rw (p, q, h) refl
        flag_value_fault (word t) v q = rw (p, q, h) refl
        flag_value_fault (value o w) v q = rw (p, q, h) refl
        flag_value_fault (due o) v q = rw (p, q, h) refl

        pub flag_due_fault : (o : OptionName) → long_of u ≡ Some (n, None) → Known rs (due o) → no_kinds (turn_fault (shape name rs) [] (walk_at rows (due o) false) u) ≡ false
        unfolding clap_on_literals
        flag_due_fault o q k = rw (p, q, h, k) refl

      module _ (h : arg_by_long rs n ≡ Some (value_rule i)) where
        pub bare_walk : (f : Holds) (o : OptionName) → i ≡ option_word o → long_of u ≡ Some (n, None) → is_due f ≡ false → Known rs f → walked rs [] (walk_at rows f false) u ≡ walk_at (settled_at rows f) (due o) false
        unfolding clap_on_literals
        bare_walk nothing o e q d k = rw (p, q, h, e) refl
        bare_walk (word t) o e q d k = rw (p, q, h, are.words, e) refl
        bare_walk (value x w) o e q d k = rw (p, q, h, k, e) refl
        bare_walk (due x) o e q d k = absurd (true≢false d)

        pub bare_passes : (f : Holds) → long_of u ≡ Some (n, None) → is_due f ≡ false → Known rs f → turn_fault (shape name rs) [] (walk_at rows f false) u ≡ []
        unfolding clap_on_literals
        bare_passes nothing q d k = rw (p, q, h) refl
        bare_passes (word t) q d k = rw (p, q, h, are.words) refl
        bare_passes (value o w) q d k = rw (p, q, h, k) refl
        bare_passes (due o) q d k = absurd (true≢false d)

        pub attached_walk : (f : Holds) (v : Text) → long_of u ≡ Some (n, Some v) → is_due f ≡ false → Known rs f → walked rs [] (walk_at rows f false) u ≡ walk_at (used i v (settled_at rows f)) nothing false
        unfolding clap_on_literals
        attached_walk nothing v q d k = rw (p, q, h) refl
        attached_walk (word t) v q d k = rw (p, q, h, are.words) refl
        attached_walk (value o w) v q d k = rw (p, q, h, k) refl
        attached_walk (due o) v q d k = absurd (true≢false d)

        pub attached_passes : (f : Holds) (v : Text) → long_of u ≡ Some (n, Some v) → is_due f ≡ false → Known rs f → turn_fault (shape name rs) [] (walk_at rows f false) u ≡ []
        unfolding clap_on_literals
        attached_passes nothing v q d k = rw (p, q, h) refl
        attached_passes (word t) v q d k = rw (p, q, h, are.words) refl
        attached_passes (value o w) v q d k = rw (p, q, h, k) refl
        attached_passes (due o) v q d k = absurd (true≢false d)

        pub due_fault : (o : OptionName) (v : Option Text) → long_of u ≡ Some (n, v) → Known rs (due o) → no_kinds (turn_fault (shape name rs) [] (walk_at rows (due o) false) u) ≡ false
        unfolding clap_on_literals
        due_fault o None q k = rw (p, q, h, k) refl
        due_fault o (Some v) q k = rw (p, q, h, k) refl
