-- The members that are noted for a name are all that define it.
use Rattle.std.proofs.Common.{◌≡◌, ℕ, zero, suc, ◌+◌, Bool, true, false, true≢false, cond, List, [], ◌∷◌, ◌++◌, length, map, Option, Some, None, is_some, slice_get, OnOk, Result, Ok, Err, nat_eq, refl, ap, sym, ◌∙◌, subst, arith}
use Rattle.std.specs.Prelude.{String, string_bytes}
use Rattle.std.specs.Map.{lookup, set_value}
use Rattle.std.specs.Str.{bytes_eq}
use Rattle.std.specs.String.{string_eq}
use Rattle.indexmap.specs.IndexMap.{insert_entry}
use Rattle.std.proofs.lemmas.Slice.Eq.{bytes_eq-Decides}
use Rattle.std.proofs.lemmas.Bool.Decides.{nat_tests}
use Rattle.spec_linking.specs.spec_binary.Options.{◌>>=◌}
use Rattle.spec_linking.specs.Orders.{is_among, with_number}
use Rattle.spec_linking.specs.Definitions as defined
use Rattle.dyl_scope.specs.declared.maker.Told.{Told}
use Rattle.dyl_scope.specs.Names.{Defined, definition_value}
use Rattle.dyl_scope.specs.Kept.{names_by}
use Rattle.dyl_scope.specs.Scopes.{by_member, by_first}
use Rattle.dyl_scope.specs.Definers.{Definers, by_text, definers_of, with_definer, with_definers, with_told, AreOnly, AreDefiners}
use Rattle.dyl_scope.proofs.Distinct.{added, kept}
use Rattle.dyl_names.proofs.Entries.{keyed_insert}
use Rattle.dyl_names.proofs.Only.{not_among}
use Rattle.dyl_scope.proofs.Lookups.{lookup_all}

same_name : (name : List ℕ) → bytes_eq name name ≡ true
same_name name = (bytes_eq-Decides name name).1 refl

-- those that are noted stay
definer_kept : (name : List ℕ) (m k : ℕ) (other : List ℕ) (ds : Definers) → is_among k (definers_of ds other) ≡ true → is_among k (definers_of (with_definer name m ds) other) ≡ true
definer_kept name m k other [] there = absurd cc
definer_kept name m k other (d ∷ ds) there = by (bytes_eq name d.0) refl (bytes_eq other d.0) refl (definer_kept name m k other ds)
  where
    by : (a : Bool) → bytes_eq name d.0 ≡ a → (b : Bool) → bytes_eq other d.0 ≡ b
        → (is_among k (definers_of ds other) ≡ true → is_among k (definers_of (with_definer name m ds) other) ≡ true) → is_among k (definers_of (with_definer name m (d ∷ ds)) other) ≡ true
    by true p true q rest = rw (p, q) (kept d.1 m k (rw q at there))
    by true p false q rest = rw (p, q) (rw q at there)
    by false p true q rest = rw (p, q) (rw q at there)
    by false p false q rest = rw (p, q) (rest (rw q at there))

-- one that is noted is there
definer_added : (name : List ℕ) (m : ℕ) (ds : Definers) → is_among m (definers_of (with_definer name m ds) name) ≡ true
definer_added name m [] = rw (same_name name) (added [] m)
definer_added name m (d ∷ ds) = by (bytes_eq name d.0) refl (definer_added name m ds)
  where
    by : (b : Bool) → bytes_eq name d.0 ≡ b → is_among m (definers_of (with_definer name m ds) name) ≡ true → is_among m (definers_of (with_definer name m (d ∷ ds)) name) ≡ true
    by true p rest = rw (p, p) (added d.1 m)
    by false p rest = rw (p, p) rest

-- the same of all names of a member
names_kept : (m k : ℕ) (other : List ℕ) (xs : Defined) (ds : Definers) → is_among k (definers_of ds other) ≡ true → is_among k (definers_of (with_definers m xs ds) other) ≡ true
names_kept m k other [] ds there = there
names_kept m k other (x ∷ xs) ds there = names_kept m k other xs (with_definer x.0 m ds) (definer_kept x.0 m k other ds there)

names_added : (m : ℕ) (name : List ℕ) (xs : Defined) (ds : Definers) → is_some (lookup (bytes_eq name) xs) ≡ true → is_among m (definers_of (with_definers m xs ds) name) ≡ true
names_added m name [] ds some = absurd cc
names_added m name (x ∷ xs) ds some = by (bytes_eq name x.0) refl (names_added m name xs (with_definer x.0 m ds))
  where
    by : (b : Bool) → bytes_eq name x.0 ≡ b → (is_some (lookup (bytes_eq name) xs) ≡ true → is_among m (definers_of (with_definers m xs (with_definer x.0 m ds)) name) ≡ true)
        → is_among m (definers_of (with_definers m xs (with_definer x.0 m ds)) name) ≡ true
    by true p rest =
        let same : name ≡ x.0 = (bytes_eq-Decides name x.0).0 p in
        let P : List ℕ → Type 0 = λ n. is_among m (definers_of (with_definer n m ds) name) ≡ true in
        names_kept m m name xs (with_definer x.0 m ds) (subst P same (definer_added name m ds))
    by false p rest = rest (rw p at some)

-- and of all members
told_kept : (k : ℕ) (other : List ℕ) (m : ℕ) (ts : List Told) (ds : Definers) → is_among k (definers_of ds other) ≡ true → is_among k (definers_of (with_told m ts ds) other) ≡ true
told_kept k other m [] ds there = there
told_kept k other m (t ∷ ts) ds there =
    let names = map definition_value t.definitions in
    told_kept k other (m + 1) ts (with_definers m names ds) (names_kept m k other names ds there)

told_added : (name : List ℕ) (m k n : ℕ) (ts : List Told) (ds : Definers) → n ≡ m + k → is_some (slice_get (map names_by ts) k >>= lookup (bytes_eq name)) ≡ true
    → is_among n (definers_of (with_told m ts ds) name) ≡ true
told_added name m k n [] ds at some = absurd cc
told_added name m zero n (t ∷ ts) ds at some =
    let names = map definition_value t.definitions in
    let there : is_some (lookup (bytes_eq name) names) ≡ true = ap is_some (sym (lookup_all name names [])) ∙ some in
    let same : m ≡ n = omega arith in
    let P : ℕ → Type 0 = λ i. is_among i (definers_of (with_told (m + 1) ts (with_definers m names ds)) name) ≡ true in
    subst P same (told_kept m name (m + 1) ts (with_definers m names ds) (names_added m name names ds there))
told_added name m (suc k) n (t ∷ ts) ds at some =
    told_added name (m + 1) k n ts (with_definers m (map definition_value t.definitions) ds) (omega arith) some

-- those of all members are all that define a name
pub told_definers : (ts : List Told) → AreDefiners (map names_by ts) (with_told 0 ts [])
told_definers ts = λ name m none. by name m none (slice_get (map names_by ts) m >>= lookup (bytes_eq name)) refl
  where
    by : (name : List ℕ) (m : ℕ) → is_among m (definers_of (with_told 0 ts []) name) ≡ false → (r : Option defined.Symbol) → (slice_get (map names_by ts) m >>= lookup (bytes_eq name)) ≡ r
        → (slice_get (map names_by ts) m >>= lookup (bytes_eq name)) ≡ None
    by name m none None p = p
    by name m none (Some s) p = absurd (true≢false (sym (told_added name 0 m m ts [] (omega arith) (ap is_some p)) ∙ none))

-- ---- entries of the map

module _ {Z : Type 0} where
  -- a text is looked up by its bytes
  pub members_by_text : (name : List ℕ) (es : List (String Z × List ℕ)) → lookup (bytes_eq name) (by_text es) ≡ lookup (λ k. bytes_eq name (string_bytes k)) es
  members_by_text name [] = refl
  members_by_text name (e ∷ es) = ap (λ r. cond (bytes_eq name (string_bytes e.0)) (Some e.1) r) (members_by_text name es)

  text_there : (name : List ℕ) (m : ℕ) (es : List (String Z × List ℕ)) (w v : List ℕ) → lookup (λ k. bytes_eq name (string_bytes k)) es ≡ Some v → w ≡ with_number v m
      → by_text (set_value (λ k. bytes_eq name (string_bytes k)) es w) ≡ with_definer name m (by_text es)
  text_there name m [] w v found is = absurd cc
  text_there name m (e ∷ es) w v found is = by (bytes_eq name (string_bytes e.0)) refl (text_there name m es w v)
    where
      by : (b : Bool) → bytes_eq name (string_bytes e.0) ≡ b
          → (lookup (λ k. bytes_eq name (string_bytes k)) es ≡ Some v → w ≡ with_number v m → by_text (set_value (λ k. bytes_eq name (string_bytes k)) es w) ≡ with_definer name m (by_text es))
          → by_text (set_value (λ k. bytes_eq name (string_bytes k)) (e ∷ es) w) ≡ with_definer name m (by_text (e ∷ es))
      by true p rest =
          let here : Some e.1 ≡ Some v = rw p at found in
          let same : e.1 ≡ v = cc in
          rw p (ap (λ (ms : List ℕ). (string_bytes e.0, ms) ∷ by_text es) (is ∙ ap (λ (ms : List ℕ). with_number ms m) (sym same)))
      by false p rest = rw p (ap (λ (r : Definers). (string_bytes e.0, e.1) ∷ r) (rest (rw p at found) is))

  -- a member more for a name that is there
  pub definer_noted : (name : List ℕ) (m : ℕ) (es new : List (String Z × List ℕ)) (w v : List ℕ) (old : Definers)
      → by_text es ≡ old → new ≡ set_value (λ k. bytes_eq name (string_bytes k)) es w → lookup (λ k. bytes_eq name (string_bytes k)) es ≡ Some v → w ≡ with_number v m
      → by_text new ≡ with_definer name m old
  definer_noted name m es new w v old view written found is = ap by_text written ∙ text_there name m es w v found is ∙ ap (with_definer name m) view

-- a name that isn't there goes last
pub name_last : (name : List ℕ) (m : ℕ) (ds : Definers) → lookup (bytes_eq name) ds ≡ None → ds ++ (name, m ∷ []) ∷ [] ≡ with_definer name m ds
name_last name m [] none = refl
name_last name m (d ∷ ds) none = by (bytes_eq name d.0) refl (name_last name m ds)
  where
    by : (b : Bool) → bytes_eq name d.0 ≡ b → (lookup (bytes_eq name) ds ≡ None → ds ++ (name, m ∷ []) ∷ [] ≡ with_definer name m ds) → (d ∷ ds) ++ (name, m ∷ []) ∷ [] ≡ with_definer name m (d ∷ ds)
    by true p rest = absurd (let h = rw p at none in cc)
    by false p rest = rw p (ap (λ (r : Definers). d ∷ r) (rest (rw p at none)))

module _ {Z : Type 0} where
  pub name_added : (es new : List (String Z × List ℕ)) (k : String Z) (v : List ℕ) (name : List ℕ) (m : ℕ) (old : Definers)
      → by_text es ≡ old → new ≡ insert_entry string_eq es k v → string_bytes k ≡ name → v ≡ m ∷ [] → lookup (bytes_eq name) old ≡ None
      → by_text new ≡ with_definer name m old
  name_added es new k v name m old view inserted named one none =
      let absent : lookup (bytes_eq (string_bytes k)) (by_text es) ≡ None = ap (λ n. lookup (bytes_eq n) (by_text es)) named ∙ ap (lookup (bytes_eq name)) view ∙ none in
      ap by_text inserted
      ∙ keyed_insert (λ (ms : List ℕ). ms) string_eq (λ x y. refl) es k v absent
      ∙ (λ i. view i ++ (named i, one i) ∷ [])
      ∙ name_last name m old none

pub on_ok : {T E : Type 0} {P Q : Type 0} (r : Result T E) → (P → Q) → OnOk r P → OnOk r Q
on_ok (Ok x) f p = f p
on_ok (Err e) f p = p

-- ---- the first of some members, by those that define the name

module _ (names : List Defined) (name : List ℕ) where
  none_first : AreOnly names [] name → (ms : List ℕ) → by_first names ms name ≡ defined.Undefined
  none_first only [] = refl
  none_first only (m ∷ ms) = ap (λ d. defined.or_defined d (by_first names ms name)) (not_among names name [] only m refl) ∙ none_first only ms

  pub no_first : (definers : List ℕ) → length definers ≡ 0 → AreOnly names definers name → (ms : List ℕ) → by_first names ms name ≡ defined.Undefined
  no_first [] none only ms = none_first only ms
  no_first (k ∷ ks) none only ms = absurd (omega arith)

  or_itself : (a : defined.Definition) (b : Bool) → defined.or_defined a (cond b a defined.Undefined) ≡ a
  or_itself defined.Undefined true = refl
  or_itself defined.Undefined false = refl
  or_itself _ b = refl

  pub one_first : (k : ℕ) → AreOnly names (k ∷ []) name → (ms : List ℕ) → by_first names ms name ≡ cond (is_among k ms) (by_member names k name) defined.Undefined
  one_first k only [] = refl
  one_first k only (m ∷ ms) = by (nat_eq m k) refl (one_first k only ms)
    where
      by : (b : Bool) → nat_eq m k ≡ b → by_first names ms name ≡ cond (is_among k ms) (by_member names k name) defined.Undefined
          → by_first names (m ∷ ms) name ≡ cond (is_among k (m ∷ ms)) (by_member names k name) defined.Undefined
      by true p rest =
          let same : m ≡ k = grind (arith, nat_tests) in
          rw p (ap (λ n. defined.or_defined (by_member names n name) (by_first names ms name)) same
          ∙ ap (defined.or_defined (by_member names k name)) rest ∙ or_itself (by_member names k name) (is_among k ms))
      by false p rest =
          let other : nat_eq k m ≡ false = grind (arith, nat_tests) in
          let none : is_among m (k ∷ []) ≡ false = rw other refl in
          rw p (ap (λ d. defined.or_defined d (by_first names ms name)) (not_among names name (k ∷ []) only m none) ∙ rest)
