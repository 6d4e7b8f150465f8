-- From the matches of `clap` to what is asked for.
use Rattle.std.proofs.Common.{◌≡◌, Bool, true, false, List, [], ◌∷◌, Option, Some, None, refl, sym, ap, ◌∙◌, subst, option_and_then, option_map, unwrap_or, map, cond, drop, true≢false}
use Rattle.std.specs.List.{list_any}
use Rattle.std.specs.Borrow.{Bor}
use Rattle.std.specs.Str.{bytes_eq}
use Rattle.dyl_words.specs.Forms.{Form, ends, option, stray, plain, form_of, after_hyphen}
use Rattle.dyl_words.specs.declared.names.CommandName.{CommandName}
use Rattle.dyl_words.specs.declared.names.CommandName.TheVariants.{Merge, Run, Exec, Plan, Gen, Trace, Replay, Snap, Board}
use Rattle.dyl_words.specs.declared.names.OptionName.{OptionName}
use Rattle.dyl_words.specs.declared.names.OptionName.TheVariants.{Dl, Path, Pages, Stack, NoDuplicates, Steps, Slice, Turns, One}
use Rattle.dyl_words.specs.Words.{Given, options_of, option_named, is_flag, yes, with_plain, with_use, at_option, at_form, given, has_zero, values_of, takes_plain, asked_by, asked_in, asked}
use Rattle.dyl_words.specs.Clap.{app, no_kinds, vals, texts_in, is_stray_first, has_stray, words_in, values_in, asked_in_rows}
use Rattle.dyl_words.proofs.Runs.{Agrees, begins_form, first_begins}
use Rattle.dyl_words.proofs.Commands.{answers}
use Rattle.clap.specs.Words.{Row, Text, fault_of, matches_of, rows_of}
use Rattle.clap.specs.Walk.{all_of}
use Rattle.clap.specs.Matches.{matched_of, raw_values}
use Rattle.clap.specs.Kinds.{Kinds}
use Rattle.clap.specs.declared.parser.matches.Found.{Found}
use Rattle.clap.proofs.WalkLemmas.{raw_values-rows}

-- ---- the values that the getters give

vals_is : (id : Text) (rows : List Row) → unwrap_or (all_of id rows) [] ≡ vals id rows
vals_is id [] = refl
vals_is id (r ∷ rs) = by (bytes_eq r.id id) refl (vals_is id rs)
  where
    by : (b : Bool) → bytes_eq r.id id ≡ b → unwrap_or (all_of id rs) [] ≡ vals id rs → unwrap_or (all_of id (r ∷ rs)) [] ≡ vals id (r ∷ rs)
    by true p rest = rw p refl
    by false p rest = rw p rest

texts_are : (r : Option (Bor (List (Bor Text)))) → texts_in r ≡ unwrap_or (option_map (λ s. map (λ v. v.now) s.now) r) []
texts_are None = refl
texts_are (Some s) = refl

pub got : (r : Option (Bor (List (Bor Text)))) (f : Found) (id : Text) → option_map (λ s. map (λ v. v.now) s.now) r ≡ option_map raw_values (matched_of f id) → texts_in r ≡ vals id (rows_of f)
got r f id h = texts_are r ∙ ap (λ o. unwrap_or o []) (h ∙ raw_values-rows f id) ∙ vals_is id (rows_of f)

pub none_taken : (c : CommandName) → takes_plain c 0 ≡ false
none_taken Merge = refl
none_taken Run = refl
none_taken Exec = refl
none_taken Plan = refl
none_taken Gen = refl
none_taken Trace = refl
none_taken Replay = refl
none_taken Snap = refl
none_taken Board = refl

-- ---- stray hyphens

module _ (known : List OptionName) (t : Text) (ts : List Text) (later : has_stray ts ≡ true → (aw : Option OptionName) → given known aw ts ≡ None) where
  bare_none : (b : Bool) (o : OptionName) → has_stray ts ≡ true → cond b (option_map (with_use o yes) (given known None ts)) (given known (Some o) ts) ≡ None
  bare_none true o h = ap (option_map (with_use o yes)) (later h None)
  bare_none false o h = later h (Some o)

  attached_none : (b : Bool) (o : OptionName) (v : Text) → has_stray ts ≡ true → cond b None (option_map (with_use o v) (given known None ts)) ≡ None
  attached_none true o v h = refl
  attached_none false o v h = ap (option_map (with_use o v)) (later h None)

  option_none : (r : Option OptionName) (v : Option Text) → has_stray ts ≡ true → at_option r v (λ aw. given known aw ts) ≡ None
  option_none None v h = refl
  option_none (Some o) None h = bare_none (is_flag o) o h
  option_none (Some o) (Some v) h = attached_none (is_flag o) o v h

  form_none : (m : Form) → is_stray_first m (has_stray ts) ≡ true → at_form known m t ts (λ aw. given known aw ts) ≡ None
  form_none ends h = absurd (true≢false (sym h))
  form_none (option n v) h = option_none (option_named known n) v h
  form_none stray h = refl
  form_none plain h = ap (option_map (with_plain t)) (later h None)

  value_none : (m : Form) (o : OptionName) → is_stray_first m (has_stray ts) ≡ true → cond (begins_form m) None (option_map (with_use o t) (given known None ts)) ≡ None
  value_none ends o h = refl
  value_none (option n v) o h = refl
  value_none stray o h = refl
  value_none plain o h = ap (option_map (with_use o t)) (later h None)

stray_none : (known : List OptionName) (ts : List Text) → has_stray ts ≡ true → (aw : Option OptionName) → given known aw ts ≡ None
stray_none known [] h aw = absurd (true≢false (sym h))
stray_none known (t ∷ ts) h None = form_none known t ts (stray_none known ts) (form_of t) h
stray_none known (t ∷ ts) h (Some o) = ap (λ b. cond b None (option_map (with_use o t) (given known None ts))) (sym (first_begins (after_hyphen t)))
    ∙ value_none known t ts (stray_none known ts) (form_of t) o h

-- ---- what is asked for

asked_same : (c : CommandName) (ws xs : List Text) (f g : OptionName → List Text) → ws ≡ xs → ((p : OptionName) → f p ≡ g p) → asked_by c ws f ≡ asked_by c xs g
asked_same c ws xs f g e h = rw (e, h Dl, h Path, h Pages, h Stack, h NoDuplicates, h Steps, h Slice, h Turns, h One) refl

agreed : (c : CommandName) (k : Kinds) (rows : List Row) (r : Option Given) → Agrees k rows [] (λ p. []) r → k ≡ [] → option_and_then (asked_in c) r ≡ asked_in_rows c rows
agreed c k rows None h e = absurd (true≢false (sym (ap no_kinds e) ∙ h))
agreed c k rows (Some g) h e = asked_same c g.plain (words_in rows) (λ o. values_of o g.uses) (values_in rows) (sym h.1) (λ p. sym (h.2 p))

disagreed : (c : CommandName) (k : Kinds) (rows : List Row) (r : Option Given) → Agrees k rows [] (λ p. []) r → no_kinds k ≡ false → option_and_then (asked_in c) r ≡ None
disagreed c k rows None h e = refl
disagreed c k rows (Some g) h e = absurd (true≢false (sym (ap no_kinds h.0) ∙ e))

module _ (c : CommandName) (ws : List Text) where
  module _ (name : Text) (ts : List Text) (is : ws ≡ name ∷ ts) where
    at_rest : (P : List Text → Type 0) → P ts → P (drop 1 ws)
    at_rest P h = subst (λ w. P (drop 1 w)) (sym is) h

    pub zero_refused : list_any has_zero ts ≡ true → asked c (drop 1 ws) ≡ None
    zero_refused h = at_rest (λ x. asked c x ≡ None) (ap (λ b. cond b None (option_and_then (asked_in c) (given (options_of c) None ts))) h)

    module _ (zero_free : list_any has_zero ts ≡ false) where
      read_is : asked c ts ≡ option_and_then (asked_in c) (given (options_of c) None ts)
      read_is = ap (λ b. cond b None (option_and_then (asked_in c) (given (options_of c) None ts))) zero_free

      pub stray_refused : has_stray ts ≡ true → asked c (drop 1 ws) ≡ None
      stray_refused h = at_rest (λ x. asked c x ≡ None) (read_is ∙ ap (option_and_then (asked_in c)) (stray_none (options_of c) ts h None))

      module _ (open_words : has_stray ts ≡ false) where
        pub refused : no_kinds (fault_of (app c) ws) ≡ false → asked c (drop 1 ws) ≡ None
        refused h = at_rest (λ x. asked c x ≡ None) (read_is ∙ disagreed c (fault_of (app c) (name ∷ ts)) (matches_of (app c) (name ∷ ts)) (given (options_of c) None ts) (answers name ts c open_words) (ap (λ w. no_kinds (fault_of (app c) w)) (sym is) ∙ h))

        pub read : fault_of (app c) ws ≡ [] → (rows : List Row) → rows ≡ matches_of (app c) ws → asked c (drop 1 ws) ≡ asked_in_rows c rows
        read h rows e = at_rest (λ x. asked c x ≡ asked_in_rows c rows)
            (read_is ∙ agreed c (fault_of (app c) (name ∷ ts)) (matches_of (app c) (name ∷ ts)) (given (options_of c) None ts) (answers name ts c open_words) (ap (fault_of (app c)) (sym is) ∙ h) ∙ ap (asked_in_rows c) (sym (e ∙ ap (matches_of (app c)) is)))
