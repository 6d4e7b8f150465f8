-- The walk of `clap` over all words, beside the reading of specs/.
use Rattle.std.proofs.Common.{◌≡◌, Bool, true, false, List, [], ◌∷◌, ◌++◌, Option, Some, None, is_some, option_map, codes, refl, sym, ap, ap₂, ◌∙◌, subst, cond, fold, true≢false, append_assoc, append-nil}
use lib.Pointwise.{bytes_decides}
use Rattle.std.specs.Str.{bytes_eq}
use Rattle.dyl_words.specs.Forms.{Form, ends, option, stray, plain, form_of, after_hyphen, first_form, second_form}
use Rattle.dyl_words.specs.declared.names.OptionName.{OptionName}
use Rattle.dyl_words.specs.Words.{Given, option_word, option_named, is_flag, yes, plain_alone, with_plain, with_use, at_option, at_form, given, values_of}
use Rattle.dyl_words.specs.Clap.{no_kinds, vals, has_stray, is_stray_first}
use Rattle.dyl_words.proofs.Rules.{value_rule, flag_rule, option_rule, shape, words_differ, option_differs}
use Rattle.dyl_words.proofs.Values.{vals_after}
use Rattle.dyl_words.proofs.Sorts.{Sort, sorts, dashes}
use Rattle.dyl_words.proofs.Walks.{Holds, nothing, word, value, due, walk_at, held_at, is_due, settled_at, used, how, AreRules, Known, plain_walk, plain_passes, value_walk, value_passes, dashes_walk, dashes_passes, ended_walk, ended_passes, ended_fault, end_passes, end_fault, end_rows, unknown_fault, flag_walk, flag_passes, flag_value_fault, flag_due_fault, bare_walk, bare_passes, attached_walk, attached_passes, due_fault}
use Rattle.clap.specs.Words.{App, Row, Rule, Text}
use Rattle.clap.specs.Simple.{entered}
use Rattle.clap.specs.Walk.{Walk, walked, finished, settled, with_default, arg_by_id, arg_by_long}
use Rattle.clap.specs.Faults.{turn_fault, walk_fault, settle_fault, entered_fault, defaults_fault, check_fault}
use Rattle.clap.specs.Kinds.{Kinds, or_else}
use Rattle.clap.specs.Lexer.{long_of, short_of}

-- ---- what an answer of `clap` has to be, where these values stand before those that are given

abbrev pub Agrees : Kinds → List Row → List Text → (OptionName → List Text) → Option Given → Type 0
Agrees k rows ws vs None = no_kinds k ≡ false
Agrees k rows ws vs (Some g) = (k ≡ []) × (vals (codes "words") rows ≡ ws ++ g.plain) × ((p : OptionName) → vals (option_word p) rows ≡ vs p ++ values_of p g.uses)

-- the values with one more of this option
abbrev pub more : OptionName → Text → (OptionName → List Text) → OptionName → List Text
more o v vs p = cond (bytes_eq (option_word o) (option_word p)) (vs p ++ v ∷ []) (vs p)

module _ (k : Kinds) (rows : List Row) (ws : List Text) (vs : OptionName → List Text) where
  more_plain : (t : Text) (r : Option Given) → Agrees k rows (ws ++ t ∷ []) vs r → Agrees k rows ws vs (option_map (with_plain t) r)
  more_plain t None h = h
  more_plain t (Some g) h = (h.0, h.1 ∙ append_assoc ws (t ∷ []) g.plain, h.2)

  values_more : (o p : OptionName) (v : Text) (us : List (OptionName × Text)) → more o v vs p ++ values_of p us ≡ vs p ++ values_of p ((o, v) ∷ us)
  values_more o p v us = by (bytes_eq (option_word o) (option_word p)) refl
    where
      by : (b : Bool) → bytes_eq (option_word o) (option_word p) ≡ b → more o v vs p ++ values_of p us ≡ vs p ++ values_of p ((o, v) ∷ us)
      by true e = rw e (append_assoc (vs p) (v ∷ []) (values_of p us))
      by false e = rw e refl

  more_use : (o : OptionName) (v : Text) (r : Option Given) → Agrees k rows ws (more o v vs) r → Agrees k rows ws vs (option_map (with_use o v) r)
  more_use o v None h = h
  more_use o v (Some g) h = (h.0, h.1, λ p. h.2 p ∙ values_more o p v g.uses)

  other_start : (xs : List Text) (ys : OptionName → List Text) (r : Option Given) → xs ≡ ws → ((p : OptionName) → ys p ≡ vs p) → Agrees k rows xs ys r → Agrees k rows ws vs r
  other_start xs ys None e f h = h
  other_start xs ys (Some g) e f h = (h.0, h.1 ∙ ap (λ l. l ++ g.plain) e, λ p. h.2 p ∙ ap (λ l. l ++ values_of p g.uses) (f p))

pub other_answer : (k j : Kinds) (rows others : List Row) (ws : List Text) (vs : OptionName → List Text) (r : Option Given) → k ≡ j → rows ≡ others → Agrees k rows ws vs r → Agrees j others ws vs r
other_answer k j rows others ws vs r e f h = subst (λ x. Agrees x others ws vs r) e (subst (λ x. Agrees k x ws vs r) f h)

-- ---- what is held

abbrev pub words_held : Holds → List Text → List Text
words_held (word t) ts = ts ++ t ∷ []
words_held _ ts = ts

abbrev pub values_held : Holds → (OptionName → List Text) → OptionName → List Text
values_held (value o v) vs = more o v vs
values_held _ vs = vs

abbrev pub words_at : List Row → Holds → List Text
words_at rows f = words_held f (vals (codes "words") rows)

abbrev pub values_at : List Row → Holds → OptionName → List Text
values_at rows f = values_held f (λ p. vals (option_word p) rows)

used_words : (o : OptionName) (v : Text) (rows : List Row) → vals (codes "words") (used (option_word o) v rows) ≡ vals (codes "words") rows
used_words o v rows = vals_after (option_word o) how (v ∷ []) (codes "words") rows ∙ ap (λ b. cond b (vals (codes "words") rows ++ v ∷ []) (vals (codes "words") rows)) (option_differs o)

used_values : (o : OptionName) (v : Text) (rows : List Row) (p : OptionName) → vals (option_word p) (used (option_word o) v rows) ≡ more o v (λ x. vals (option_word x) rows) p
used_values o v rows p = vals_after (option_word o) how (v ∷ []) (option_word p) rows

settled_words : (rows : List Row) (f : Holds) → vals (codes "words") (settled_at rows f) ≡ words_at rows f
settled_words rows nothing = refl
settled_words rows (word t) = vals_after (codes "words") how (t ∷ []) (codes "words") rows
settled_words rows (value o v) = used_words o v rows
settled_words rows (due o) = refl

settled_values : (rows : List Row) (f : Holds) (p : OptionName) → vals (option_word p) (settled_at rows f) ≡ values_at rows f p
settled_values rows nothing p = refl
settled_values rows (word t) p = vals_after (codes "words") how (t ∷ []) (option_word p) rows ∙ ap (λ b. cond b (vals (option_word p) rows ++ t ∷ []) (vals (option_word p) rows)) (words_differ p)
settled_values rows (value o v) p = used_values o v rows p
settled_values rows (due o) p = refl

-- ---- all words

fails_first : (a b : Kinds) → no_kinds a ≡ false → no_kinds (or_else a b) ≡ false
fails_first [] b h = absurd (true≢false h)
fails_first (k ∷ ks) b h = refl

-- no rule has a default, and none is required
pub record ArePlain (name : Text) (rs : List Rule) : Type 0 where
  pub stay : (rows : List Row) → fold with_default rows rs ≡ rows
  pub defaults : (rows : List Row) → defaults_fault rows rs ≡ []
  pub checks : (rows : List Row) → check_fault (shape name rs) rows false ≡ []

abbrev pub Knows : List Rule → List OptionName → Type 0
Knows rs known = (n : Text) → (arg_by_long rs n ≡ option_map option_rule (option_named known n))
    × ((o : OptionName) → option_named known n ≡ Some o → arg_by_id rs (option_word o) ≡ Some (option_rule o))

-- what is left to fail once the words are read
abbrev pub end_kinds : App → Text → List Rule → Walk → Kinds
end_kinds a name rs w = or_else (entered_fault a w.stopped) (or_else (settle_fault rs false w.held)
    (or_else (defaults_fault (settled rs w.held).rows rs) (check_fault (shape name rs) (finished rs w.held) (is_some (entered a w.stopped)))))

module _ (a : App) (name : Text) (rs : List Rule) where
  abbrev pub kinds_of : Walk → List Text → Kinds
  kinds_of w ts = or_else (walk_fault (shape name rs) [] w ts) (end_kinds a name rs (fold (walked rs []) w ts))

  abbrev pub rows_of : Walk → List Text → List Row
  rows_of w ts = finished rs (fold (walked rs []) w ts).held

  module _ (w : Walk) (t : Text) (ts : List Text) where
    fails_now : (ws : List Text) (vs : OptionName → List Text) → no_kinds (turn_fault (shape name rs) [] w t) ≡ false → Agrees (kinds_of w (t ∷ ts)) (rows_of w (t ∷ ts)) ws vs None
    unfolding walk_fault
    fails_now ws vs h = fails_first _ _ (fails_first _ _ h)

    same_kinds : (v : Walk) → turn_fault (shape name rs) [] w t ≡ [] → walked rs [] w t ≡ v → kinds_of v ts ≡ kinds_of w (t ∷ ts)
    unfolding walk_fault
    same_kinds v p e = sym (ap (λ k. or_else (or_else k (walk_fault (shape name rs) [] (walked rs [] w t) ts)) (end_kinds a name rs (fold (walked rs []) (walked rs [] w t) ts))) p
        ∙ ap (λ x. kinds_of x ts) e)

    goes : (v : Walk) (ws : List Text) (vs : OptionName → List Text) (r : Option Given) → turn_fault (shape name rs) [] w t ≡ [] → walked rs [] w t ≡ v
        → Agrees (kinds_of v ts) (rows_of v ts) ws vs r → Agrees (kinds_of w (t ∷ ts)) (rows_of w (t ∷ ts)) ws vs r
    goes v ws vs r p e h = other_answer _ _ _ _ ws vs r (same_kinds v p e) (ap (λ x. rows_of x ts) (sym e)) h

-- ---- words one by one

abbrev pub awaits : Holds → Option OptionName
awaits (due o) = Some o
awaits _ = None

abbrev pub begins_form : Form → Bool
begins_form plain = false
begins_form _ = true

second_begins : (r : Option Text) → begins_form (second_form r) ≡ true
second_begins None = refl
second_begins (Some []) = refl
second_begins (Some (b ∷ bs)) = refl

pub first_begins : (r : Option Text) → begins_form (first_form r) ≡ is_some r
first_begins None = refl
first_begins (Some rest) = second_begins (after_hyphen rest)

module _ (a : App) (name : Text) (rs : List Rule) (are : AreRules rs) (simple : ArePlain name rs) (known : List OptionName) (knows : Knows rs known) where
  ends_rows : (rows : List Row) (f : Holds) → is_due f ≡ false → Known rs f → finished rs (held_at rows f) ≡ settled_at rows f
  ends_rows rows f d k = simple.stay (settled rs (held_at rows f)).rows ∙ end_rows name rs are rows f d k

  ends_well : (rows : List Row) (f : Holds) (e : Bool) → is_due f ≡ false → Known rs f → end_kinds a name rs (walk_at rows f e) ≡ []
  ends_well rows f e d k = ap₂ (λ x y. or_else x (or_else y (check_fault (shape name rs) (finished rs (held_at rows f)) false)))
      (end_passes name rs are rows f d k) (simple.defaults (settled rs (held_at rows f)).rows)
      ∙ simple.checks (finished rs (held_at rows f))

  at_end : (rows : List Row) (f : Holds) (e : Bool) → is_due f ≡ false → Known rs f
      → Agrees (kinds_of a name rs (walk_at rows f e) []) (rows_of a name rs (walk_at rows f e) []) (words_at rows f) (values_at rows f) (Some (plain_alone []))
  unfolding walk_fault
  at_end rows f e d k = (
    ends_well rows f e d k,
    ap (vals (codes "words")) (ends_rows rows f d k) ∙ settled_words rows f ∙ sym (append-nil (words_at rows f)),
    λ p. ap (vals (option_word p)) (ends_rows rows f d k) ∙ settled_values rows f p ∙ sym (append-nil (values_at rows f p)),
  )

  due_at_end : (rows : List Row) (o : OptionName) (e : Bool) → Known rs (due o) → no_kinds (kinds_of a name rs (walk_at rows (due o) e) []) ≡ false
  unfolding walk_fault
  due_at_end rows o e k = fails_first _ _ (end_fault name rs are rows o k)

  -- after `--`
  all_plain : (ts : List Text) (rows : List Row) (f : Holds) → is_due f ≡ false → Known rs f
      → Agrees (kinds_of a name rs (walk_at rows f true) ts) (rows_of a name rs (walk_at rows f true) ts) (words_at rows f) (values_at rows f) (Some (plain_alone ts))
  all_plain [] rows f d k = at_end rows f true d k
  all_plain (t ∷ ts) rows f d k =
      more_plain _ _ (words_at rows f) (values_at rows f) t (Some (plain_alone ts))
      (other_start _ _ (words_at rows f ++ t ∷ []) (values_at rows f) _ _ (Some (plain_alone ts)) (ap (λ l. l ++ t ∷ []) (settled_words rows f)) (settled_values rows f)
      (goes a name rs (walk_at rows f true) t ts (walk_at (settled_at rows f) (word t) true) _ _ (Some (plain_alone ts))
      (ended_passes name rs are rows f t d k) (ended_walk name rs are rows f t d k) (all_plain ts (settled_at rows f) (word t) refl tt)))

  none_plain : (ts : List Text) (rows : List Row) (o : OptionName) → Known rs (due o) → no_kinds (kinds_of a name rs (walk_at rows (due o) true) ts) ≡ false
  none_plain [] rows o k = due_at_end rows o true k
  none_plain (t ∷ ts) rows o k = fails_now a name rs (walk_at rows (due o) true) t ts [] (λ p. []) (ended_fault name rs are rows o t k)

  abbrev Runs : List Text → List Row → Holds → Type 0
  Runs ts rows f = Agrees (kinds_of a name rs (walk_at rows f false) ts) (rows_of a name rs (walk_at rows f false) ts) (words_at rows f) (values_at rows f) (given known (awaits f) ts)

  abbrev First : List Row → Holds → Text → List Text → Option Given → Type 0
  First rows f t ts r = Agrees (kinds_of a name rs (walk_at rows f false) (t ∷ ts)) (rows_of a name rs (walk_at rows f false) (t ∷ ts)) (words_at rows f) (values_at rows f) r

  module _ (t : Text) (ts : List Text) (later : has_stray ts ≡ false → (rows : List Row) (f : Holds) → Known rs f → Runs ts rows f) (rows : List Row) where
    abbrev rest : Option OptionName → Option Given
    rest = λ aw. given known aw ts

    abbrev fails : Holds → Type 0
    fails f = no_kinds (turn_fault (shape name rs) [] (walk_at rows f false) t) ≡ false

    -- where no option awaits its value
    module _ (f : Holds) (d : is_due f ≡ false) (k : Known rs f) where
      abbrev now : Walk
      now = walk_at rows f false

      abbrev kinds : Kinds
      kinds = kinds_of a name rs now (t ∷ ts)

      abbrev found : List Row
      found = rows_of a name rs now (t ∷ ts)

      refused : fails f → First rows f t ts None
      refused h = fails_now a name rs now t ts (words_at rows f) (values_at rows f) h

      at_dashes : t ≡ dashes → First rows f t ts (Some (plain_alone ts))
      at_dashes e = goes a name rs now t ts (walk_at rows f true) (words_at rows f) (values_at rows f) (Some (plain_alone ts))
          (ap (turn_fault (shape name rs) [] now) e ∙ dashes_passes name rs are rows f) (ap (walked rs [] now) e ∙ dashes_walk name rs are rows f) (all_plain ts rows f d k)

      at_plain : bytes_eq t dashes ≡ false → long_of t ≡ None → short_of t ≡ None → has_stray ts ≡ false → First rows f t ts (option_map (with_plain t) (rest None))
      at_plain p q r o = more_plain kinds found (words_at rows f) (values_at rows f) t (rest None)
          (other_start kinds found (words_at rows f ++ t ∷ []) (values_at rows f) (words_at (settled_at rows f) (word t)) (values_at (settled_at rows f) (word t)) (rest None) (ap (λ l. l ++ t ∷ []) (settled_words rows f)) (settled_values rows f)
          (goes a name rs now t ts (walk_at (settled_at rows f) (word t) false) (words_at (settled_at rows f) (word t)) (values_at (settled_at rows f) (word t)) (rest None)
          (plain_passes name rs are rows t p q r f d k) (plain_walk name rs are rows t p q r f d k) (later o (settled_at rows f) (word t) tt)))

      used_now : (x : OptionName) (v : Text) → has_stray ts ≡ false → turn_fault (shape name rs) [] now t ≡ [] → walked rs [] now t ≡ walk_at (used (option_word x) v (settled_at rows f)) nothing false
          → First rows f t ts (option_map (with_use x v) (rest None))
      used_now x v o passes walks = more_use kinds found (words_at rows f) (values_at rows f) x v (rest None)
          (other_start kinds found (words_at rows f) (more x v (values_at rows f)) (words_at (used (option_word x) v (settled_at rows f)) nothing)
          (values_at (used (option_word x) v (settled_at rows f)) nothing) (rest None)
          (used_words x v (settled_at rows f) ∙ settled_words rows f)
          (λ p. used_values x v (settled_at rows f) p ∙ ap (λ l. cond (bytes_eq (option_word x) (option_word p)) (l ++ v ∷ []) l) (settled_values rows f p))
          (goes a name rs now t ts (walk_at (used (option_word x) v (settled_at rows f)) nothing false) (words_at (used (option_word x) v (settled_at rows f)) nothing)
          (values_at (used (option_word x) v (settled_at rows f)) nothing) (rest None) passes walks
          (later o (used (option_word x) v (settled_at rows f)) nothing tt)))

      awaited : (x : OptionName) → Known rs (due x) → has_stray ts ≡ false → turn_fault (shape name rs) [] now t ≡ [] → walked rs [] now t ≡ walk_at (settled_at rows f) (due x) false
          → First rows f t ts (rest (Some x))
      awaited x kx o passes walks = other_start kinds found (words_at rows f) (values_at rows f) (words_at (settled_at rows f) (due x)) (values_at (settled_at rows f) (due x)) (rest (Some x)) (settled_words rows f) (settled_values rows f)
          (goes a name rs now t ts (walk_at (settled_at rows f) (due x) false) (words_at (settled_at rows f) (due x)) (values_at (settled_at rows f) (due x)) (rest (Some x)) passes walks (later o (settled_at rows f) (due x) kx))

      module _ (n : Text) (p : bytes_eq t dashes ≡ false) (x : OptionName) (l : arg_by_long rs n ≡ Some (option_rule x)) (i : arg_by_id rs (option_word x) ≡ Some (option_rule x)) (o : has_stray ts ≡ false) where
        module _ (h : is_flag x ≡ true) where
          flag_long : arg_by_long rs n ≡ Some (flag_rule (option_word x))
          flag_long = l ∙ ap (λ b. Some (cond b (flag_rule (option_word x)) (value_rule (option_word x)))) h

          flag_option : (v : Option Text) → long_of t ≡ Some (n, v) → First rows f t ts (at_option (Some x) v rest)
          flag_option None q = subst (First rows f t ts) (sym (ap (λ b. cond b (option_map (with_use x yes) (rest None)) (rest (Some x))) h))
              (used_now x yes o (flag_passes name rs are rows t n p (option_word x) flag_long f q d k) (flag_walk name rs are rows t n p (option_word x) flag_long f q d k))
          flag_option (Some v) q = subst (First rows f t ts) (sym (ap (λ b. cond b None (option_map (with_use x v) (rest None))) h))
              (refused (flag_value_fault name rs are rows t n p (option_word x) flag_long f v q))

        module _ (h : is_flag x ≡ false) where
          value_long : arg_by_long rs n ≡ Some (value_rule (option_word x))
          value_long = l ∙ ap (λ b. Some (cond b (flag_rule (option_word x)) (value_rule (option_word x)))) h

          value_id : arg_by_id rs (option_word x) ≡ Some (value_rule (option_word x))
          value_id = i ∙ ap (λ b. Some (cond b (flag_rule (option_word x)) (value_rule (option_word x)))) h

          value_option : (v : Option Text) → long_of t ≡ Some (n, v) → First rows f t ts (at_option (Some x) v rest)
          value_option None q = subst (First rows f t ts) (sym (ap (λ b. cond b (option_map (with_use x yes) (rest None)) (rest (Some x))) h))
              (awaited x value_id o (bare_passes name rs are rows t n p (option_word x) value_long f q d k) (bare_walk name rs are rows t n p (option_word x) value_long f x refl q d k))
          value_option (Some v) q = subst (First rows f t ts) (sym (ap (λ b. cond b None (option_map (with_use x v) (rest None))) h))
              (used_now x v o (attached_passes name rs are rows t n p (option_word x) value_long f v q d k) (attached_walk name rs are rows t n p (option_word x) value_long f v q d k))

        known_option : (b : Bool) → is_flag x ≡ b → (v : Option Text) → long_of t ≡ Some (n, v) → First rows f t ts (at_option (Some x) v rest)
        known_option true h = flag_option h
        known_option false h = value_option h

      any_option : (n : Text) (v : Option Text) → bytes_eq t dashes ≡ false → long_of t ≡ Some (n, v) → has_stray ts ≡ false
          → (r : Option OptionName) → option_named known n ≡ r → First rows f t ts (at_option r v rest)
      any_option n v p q o None e = refused (unknown_fault name rs are rows t n p v q f ((knows n).0 ∙ ap (option_map option_rule) e))
      any_option n v p q o (Some x) e = known_option n p x ((knows n).0 ∙ ap (option_map option_rule) e) ((knows n).1 x e) o (is_flag x) refl v q

      by_form : (m : Form) → Sort t m → is_stray_first m (has_stray ts) ≡ false → First rows f t ts (at_form known m t ts rest)
      by_form ends s o = at_dashes s
      by_form (option n v) s o = any_option n v s.0 s.1 o (option_named known n) refl
      by_form stray s o = absurd (true≢false o)
      by_form plain s o = at_plain s.0 s.1 s.2 o

    -- where one does
    module _ (x : OptionName) (k : Known rs (due x)) where
      abbrev then : Walk
      then = walk_at rows (due x) false

      value_refused : fails (due x) → First rows (due x) t ts None
      value_refused h = fails_now a name rs then t ts (words_at rows (due x)) (values_at rows (due x)) h

      value_plain : bytes_eq t dashes ≡ false → long_of t ≡ None → short_of t ≡ None → has_stray ts ≡ false → First rows (due x) t ts (option_map (with_use x t) (rest None))
      value_plain p q r o = more_use (kinds_of a name rs then (t ∷ ts)) (rows_of a name rs then (t ∷ ts)) (words_at rows (due x)) (values_at rows (due x)) x t (rest None)
          (goes a name rs then t ts (walk_at rows (value x t) false) (words_at rows (value x t)) (values_at rows (value x t)) (rest None)
          (value_passes name rs are rows t p q r x k) (value_walk name rs are rows t p q r x k ((bytes_decides (option_word x) (option_word x)).1 refl)) (later o rows (value x t) k))

      value_dashes : t ≡ dashes → First rows (due x) t ts None
      value_dashes e = goes a name rs then t ts (walk_at rows (due x) true) (words_at rows (due x)) (values_at rows (due x)) None
          (ap (turn_fault (shape name rs) [] then) e ∙ dashes_passes name rs are rows (due x)) (ap (walked rs [] then) e ∙ dashes_walk name rs are rows (due x)) (none_plain ts rows x k)

      known_fails : (n : Text) (v : Option Text) → bytes_eq t dashes ≡ false → long_of t ≡ Some (n, v) → (y : OptionName) → arg_by_long rs n ≡ Some (option_rule y) → (b : Bool) → is_flag y ≡ b → fails (due x)
      known_fails n None p q y l true h = flag_due_fault name rs are rows t n p (option_word y) (l ∙ ap (λ b. Some (cond b (flag_rule (option_word y)) (value_rule (option_word y)))) h) x q k
      known_fails n (Some v) p q y l true h = flag_value_fault name rs are rows t n p (option_word y) (l ∙ ap (λ b. Some (cond b (flag_rule (option_word y)) (value_rule (option_word y)))) h) (due x) v q
      known_fails n v p q y l false h = due_fault name rs are rows t n p (option_word y) (l ∙ ap (λ b. Some (cond b (flag_rule (option_word y)) (value_rule (option_word y)))) h) x v q k

      option_fails : (n : Text) (v : Option Text) → bytes_eq t dashes ≡ false → long_of t ≡ Some (n, v) → (r : Option OptionName) → option_named known n ≡ r → fails (due x)
      option_fails n v p q None e = unknown_fault name rs are rows t n p v q (due x) ((knows n).0 ∙ ap (option_map option_rule) e)
      option_fails n v p q (Some y) e = known_fails n v p q y ((knows n).0 ∙ ap (option_map option_rule) e) (is_flag y) refl

      value_by_form : (m : Form) → Sort t m → is_stray_first m (has_stray ts) ≡ false → First rows (due x) t ts (cond (begins_form m) None (option_map (with_use x t) (rest None)))
      value_by_form ends s o = value_dashes s
      value_by_form (option n v) s o = value_refused (option_fails n v s.0 s.1 (option_named known n) refl)
      value_by_form stray s o = absurd (true≢false o)
      value_by_form plain s o = value_plain s.0 s.1 s.2 o

    by_holds : (f : Holds) → Known rs f → has_stray (t ∷ ts) ≡ false → First rows f t ts (given known (awaits f) (t ∷ ts))
    by_holds nothing k o = by_form nothing refl k (form_of t) (sorts t) o
    by_holds (word w) k o = by_form (word w) refl k (form_of t) (sorts t) o
    by_holds (value x v) k o = by_form (value x v) refl k (form_of t) (sorts t) o
    by_holds (due x) k o = subst (λ b. First rows (due x) t ts (cond b None (option_map (with_use x t) (rest None)))) (first_begins (after_hyphen t))
        (value_by_form x k (form_of t) (sorts t) o)

  by_end : (rows : List Row) (f : Holds) → Known rs f → Runs [] rows f
  by_end rows nothing k = at_end rows nothing false refl k
  by_end rows (word w) k = at_end rows (word w) false refl k
  by_end rows (value x v) k = at_end rows (value x v) false refl k
  by_end rows (due x) k = due_at_end rows x false k

  pub runs : (ts : List Text) → has_stray ts ≡ false → (rows : List Row) (f : Holds) → Known rs f → Runs ts rows f
  runs [] o rows f k = by_end rows f k
  runs (t ∷ ts) o rows f k = by_holds t ts (runs ts) rows f k o
