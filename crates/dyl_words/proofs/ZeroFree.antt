-- No text that is asked for has a zero character, and there are as many plain words as the command takes.
use Rattle.std.proofs.Common.{◌≡◌, ℕ, Bool, true, false, List, [], ◌∷◌, Option, Some, None, is_some, refl, sym, ap, ◌∙◌, ◌||◌, ◌&&◌, ◌==◌, subst, option_and_then, option_map, unwrap_or, cond, length, drop, zero, suc, ◌+◌, true≢false}
use Rattle.std.specs.List.{list_any, list_all, after_first, position_or_len}
use Rattle.std.specs.Str.{bytes_eq}
use Rattle.dyl_words.specs.Forms.{Text, Form, ends, option, stray, plain, is_equals, after_hyphen, option_form, second_form, first_form, form_of, begins_with_hyphen}
use Rattle.dyl_words.specs.declared.names.CommandName.{CommandName}
use Rattle.dyl_words.specs.declared.names.OptionName.{OptionName}
use Rattle.dyl_words.specs.declared.names.OptionName.TheVariants.{Dl, Path}
use Rattle.dyl_words.specs.Words.{Given, Asked, option_word, option_named, options, options_of, is_flag, yes, with_plain, with_use, at_option, at_form, given, has_zero, values_of, is_right, first_of, takes_plain, asked_of, mixes, unmixed, asked_in, asked, some_has_zero, IsZeroFree}

parts_false : (a b : Bool) → (a || b) ≡ false → (a ≡ false) × (b ≡ false)
parts_false true b h = absurd (true≢false h)
parts_false false b h = (refl, h)

both_false : (a b : Bool) → a ≡ false → b ≡ false → (a || b) ≡ false
both_false a b e f = ap (λ x. x || b) e ∙ f

tail_free : (b : ℕ) (bs : Text) → has_zero (b ∷ bs) ≡ false → has_zero bs ≡ false
tail_free b bs h = (parts_false (b == 0) (has_zero bs) h).1

drop_free : (n : ℕ) (bs : Text) → has_zero bs ≡ false → has_zero (drop n bs) ≡ false
drop_free zero bs h = h
drop_free (suc n) [] h = refl
drop_free (suc n) (b ∷ bs) h = drop_free n bs (tail_free b bs h)

-- an attached value, what follows a hyphen
abbrev FreeOption : Option Text → Type 0
FreeOption None = Unit {0}
FreeOption (Some v) = has_zero v ≡ false

abbrev FreeForm : Form → Type 0
FreeForm (option n v) = FreeOption v
FreeForm _ = Unit {0}

cond_free : (c : Bool) (v : Text) → has_zero v ≡ false → FreeOption (cond c (Some v) None)
cond_free true v h = h
cond_free false v h = tt

hyphen_free : (t : Text) → has_zero t ≡ false → FreeOption (after_hyphen t)
hyphen_free [] h = tt
hyphen_free (b ∷ bs) h = cond_free (b == 45) bs (tail_free b bs h)

option_free : (bs : Text) → has_zero bs ≡ false → FreeForm (option_form bs)
option_free [] h = tt
option_free (b ∷ bs) h = cond_free (list_any is_equals (b ∷ bs)) (after_first is_equals (b ∷ bs)) (drop_free (position_or_len is_equals (b ∷ bs) + 1) (b ∷ bs) h)

second_free : (r : Option Text) → FreeOption r → FreeForm (second_form r)
second_free None h = tt
second_free (Some bs) h = option_free bs h

first_free : (r : Option Text) → FreeOption r → FreeForm (first_form r)
first_free None h = tt
first_free (Some bs) h = second_free (after_hyphen bs) (hyphen_free bs h)

form_free : (t : Text) → has_zero t ≡ false → FreeForm (form_of t)
form_free t h = first_free (after_hyphen t) (hyphen_free t h)

-- ---- what words give

abbrev Free : Option Given → Type 0
Free None = Unit {0}
Free (Some g) = (list_any has_zero g.plain ≡ false) × ((p : OptionName) → list_any has_zero (values_of p g.uses) ≡ false)

plain_free : (t : Text) (r : Option Given) → has_zero t ≡ false → Free r → Free (option_map (with_plain t) r)
plain_free t None h k = tt
plain_free t (Some g) h k = (both_false (has_zero t) (list_any has_zero g.plain) h k.0, k.1)

use_free : (o : OptionName) (v : Text) (r : Option Given) → has_zero v ≡ false → Free r → Free (option_map (with_use o v) r)
use_free o v None h k = tt
use_free o v (Some g) h k = (k.0, λ p. by p (bytes_eq (option_word o) (option_word p)) refl)
  where
    by : (p : OptionName) (c : Bool) → bytes_eq (option_word o) (option_word p) ≡ c → list_any has_zero (values_of p ((o, v) ∷ g.uses)) ≡ false
    by p true e = rw e (both_false (has_zero v) (list_any has_zero (values_of p g.uses)) h (k.1 p))
    by p false e = rw e (k.1 p)

module _ (known : List OptionName) (ts : List Text) (later : (aw : Option OptionName) → Free (given known aw ts)) where
  bare_free : (o : OptionName) (c : Bool) → Free (cond c (option_map (with_use o yes) (given known None ts)) (given known (Some o) ts))
  bare_free o true = use_free o yes (given known None ts) refl (later None)
  bare_free o false = later (Some o)

  attached_free : (o : OptionName) (v : Text) (c : Bool) → has_zero v ≡ false → Free (cond c None (option_map (with_use o v) (given known None ts)))
  attached_free o v true h = tt
  attached_free o v false h = use_free o v (given known None ts) h (later None)

  found_free : (r : Option OptionName) (v : Option Text) → FreeOption v → Free (at_option r v (λ aw. given known aw ts))
  found_free None v h = tt
  found_free (Some o) None h = bare_free o (is_flag o)
  found_free (Some o) (Some v) h = attached_free o v (is_flag o) h

  at_free : (m : Form) (t : Text) → has_zero t ≡ false → list_any has_zero ts ≡ false → FreeForm m → Free (at_form known m t ts (λ aw. given known aw ts))
  at_free ends t h r f = (r, λ p. refl)
  at_free (option n v) t h r f = found_free (option_named known n) v f
  at_free stray t h r f = tt
  at_free plain t h r f = plain_free t (given known None ts) h (later None)

given_free : (known : List OptionName) (ts : List Text) → list_any has_zero ts ≡ false → (aw : Option OptionName) → Free (given known aw ts)
given_free known [] h None = (refl, λ p. refl)
given_free known [] h (Some o) = tt
given_free known (t ∷ ts) h None = let free = parts_false (has_zero t) (list_any has_zero ts) h in
    at_free known ts (given_free known ts free.1) (form_of t) t free.0 free.1 (form_free t free.0)
given_free known (t ∷ ts) h (Some o) = let free = parts_false (has_zero t) (list_any has_zero ts) h in
    attached_free known ts (given_free known ts free.1) o t (begins_with_hyphen t) free.0

-- ---- what is asked for

first_value_free : (vs : List Text) → list_any has_zero vs ≡ false → some_has_zero (first_of vs) ≡ false
first_value_free [] h = refl
first_value_free (v ∷ vs) h = (parts_false (has_zero v) (list_any has_zero vs) h).0

abbrev pub IsTaken : CommandName → Asked → Type 0
IsTaken c a = IsZeroFree a × (takes_plain c (length a.plain) ≡ true)

unmixed_taken : (c : CommandName) (b : Bool) (x a : Asked) → IsTaken c x → cond b None (Some x) ≡ Some a → IsTaken c a
unmixed_taken c true x a h e = absurd (true≢false (sym (ap is_some e)))
unmixed_taken c false x a h e = subst (IsTaken c) (ap (λ y. unwrap_or y a) e) h

by_taken : (c : CommandName) (b d : Bool) (ws : List Text) (f : OptionName → List Text) (a : Asked) → takes_plain c (length ws) ≡ b → list_any has_zero ws ≡ false
    → ((p : OptionName) → list_any has_zero (f p) ≡ false) → cond (b && d) (unmixed (asked_of ws f)) None ≡ Some a → IsTaken c a
by_taken c true true ws f a t h k e =
    unmixed_taken c (mixes (asked_of ws f)) (asked_of ws f) a ((h, first_value_free (f Dl) (k Dl), first_value_free (f Path) (k Path)), t) e
by_taken c true false ws f a t h k e = absurd (true≢false (sym (ap is_some e)))
by_taken c false d ws f a t h k e = absurd (true≢false (sym (ap is_some e)))

in_taken : (c : CommandName) (r : Option Given) (a : Asked) → Free r → option_and_then (asked_in c) r ≡ Some a → IsTaken c a
in_taken c None a h e = absurd (true≢false (sym (ap is_some e)))
in_taken c (Some g) a h e = by_taken c (takes_plain c (length g.plain)) (list_all (λ o. is_right (values_of o g.uses)) options) g.plain (λ o. values_of o g.uses) a refl h.0 h.1 e

pub asked_taken : (c : CommandName) (ts : List Text) (a : Asked) → asked c ts ≡ Some a → IsTaken c a
asked_taken c ts a e = by (list_any has_zero ts) refl
  where
    by : (b : Bool) → list_any has_zero ts ≡ b → IsTaken c a
    by true h = absurd (true≢false (sym (ap is_some (ap (λ x. cond x None (option_and_then (asked_in c) (given (options_of c) None ts))) (sym h) ∙ e))))
    by false h = in_taken c (given (options_of c) None ts) a (given_free (options_of c) ts h None) (ap (λ x. cond x None (option_and_then (asked_in c) (given (options_of c) None ts))) (sym h) ∙ e)
