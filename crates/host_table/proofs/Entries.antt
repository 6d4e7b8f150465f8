-- Entries of a map by text keys, as the meanings see them.
use Rattle.std.proofs.Common.{◌≡◌, ℕ, Bool, true, false, List, [], ◌∷◌, ◌++◌, refl, ap, sym, ◌∙◌, cond, Some, None, OnOk, OnErr, Result, Ok, Err, string_bytes, is_some, unwrap_or, ◌||◌, true≢false, zero, suc, ◌+◌, slice_get, take, subst, arith}
use Rattle.std.specs.Prelude.{String}
use Rattle.std.specs.List.{All, AllByRecursion, IsDistinct}
use Rattle.std.specs.Str.{bytes_eq}
use Rattle.std.specs.String.{string_eq}
use Rattle.std.specs.Map.{lookup, set_value, keys_of}
use Rattle.std.proofs.lemmas.Slice.Eq.{bytes_eq-Decides}
use Rattle.std.proofs.lemmas.Option.{slice_get_within, get_or_from_slice_get}
use Rattle.std.proofs.lemmas.List.{map-append}
use Rattle.std.proofs.Math.Seq.{take-suc}
use Rattle.indexmap.specs.IndexMap.{insert_entry}
use Rattle.spec_runtime.specs.wasm_form.declared.types.FuncType.{FuncType}
use Rattle.std.proofs.lemmas.Map.Steps.{set_value_same}
use Rattle.std.proofs.lemmas.Bool.{cond_both}
use Rattle.std.proofs.lemmas.List.Elements.{All-nil, All-cons, All-head, All-tail, All-map}
use Rattle.spec_runtime.specs.Names.{HostModule, HostNames, empty_module, declares, with_function, change_module}
use Rattle.host_table.specs.Names.{by_text}

module _ {Z X : Type 0} where
  -- a text is looked up by its bytes
  pub lookup_by_text : (name : List ℕ) (es : List (String Z × X)) → lookup (bytes_eq name) (by_text es) ≡ lookup (λ k. bytes_eq name (string_bytes k)) es
  lookup_by_text name [] = refl
  lookup_by_text name (e ∷ es) = ap (λ r. cond (bytes_eq name (string_bytes e.0)) (Some e.1) r) (lookup_by_text name es)

  -- a new key goes last
  pub by_text_insert : (eq : String Z → String Z → Bool) (same : (x y : String Z) → eq x y ≡ bytes_eq (string_bytes x) (string_bytes y)) (es : List (String Z × X)) (k : String Z) (v : X)
      → is_some (lookup (bytes_eq (string_bytes k)) (by_text es)) ≡ false → by_text (insert_entry eq es k v) ≡ by_text es ++ (string_bytes k, v) ∷ []
  by_text_insert eq same [] k v none = refl
  by_text_insert eq same (e ∷ es) k v none = by (bytes_eq (string_bytes k) (string_bytes e.0)) refl (by_text_insert eq same es k v)
    where
      by : (b : Bool) → bytes_eq (string_bytes k) (string_bytes e.0) ≡ b → (is_some (lookup (bytes_eq (string_bytes k)) (by_text es)) ≡ false → by_text (insert_entry eq es k v) ≡ by_text es ++ (string_bytes k, v) ∷ []) → by_text (insert_entry eq (e ∷ es) k v) ≡ by_text (e ∷ es) ++ (string_bytes k, v) ∷ []
      by true p rest = absurd (true≢false (ap (λ b. is_some (cond b (Some e.1) (lookup (bytes_eq (string_bytes k)) (by_text es)))) (sym p) ∙ none))
      by false p rest = ap (λ b. by_text (cond b ((e.0, v) ∷ es) (e ∷ insert_entry eq es k v))) (same k e.0 ∙ p)
          ∙ ap (λ r. (string_bytes e.0, e.1) ∷ r) (rest (ap (λ b. is_some (cond b (Some e.1) (lookup (bytes_eq (string_bytes k)) (by_text es)))) (sym p) ∙ none))

-- texts that differ do so the other way round
differ_back : (a b : List ℕ) → bytes_eq a b ≡ false → bytes_eq b a ≡ false
differ_back a b e = by (bytes_eq b a) refl
  where
    by : (r : Bool) → bytes_eq b a ≡ r → bytes_eq b a ≡ false
    by false q = q
    by true q =
        let same : b ≡ a = (bytes_eq-Decides b a).0 q in
        absurd (true≢false (sym (subst (λ x. bytes_eq x a ≡ true) same q) ∙ subst (λ x. bytes_eq a x ≡ false) same e))

module _ {Z X : Type 0} where
  -- what holds of all keys holds of that of an entry
  key_has : (P : String Z → Type 0) (es : List (String Z × X)) (i : ℕ) (k : String Z) (v : X) → AllByRecursion P (keys_of es) → slice_get es i ≡ Some (k, v) → P k
  key_has P [] i k v all at = absurd (true≢false (sym (ap is_some at)))
  key_has P (e ∷ es) zero k v all at = subst P (ap (λ o. (unwrap_or o e).0) at) all.0
  key_has P (e ∷ es) (suc i) k v all at = key_has P es i k v all.1 at

  -- of distinct keys, that of an entry isn't among those before it
  before_absent : (es : List (String Z × X)) (i : ℕ) (k : String Z) (v : X) → IsDistinct string_eq (keys_of es) → slice_get es i ≡ Some (k, v)
      → is_some (lookup (bytes_eq (string_bytes k)) (by_text (take i es))) ≡ false
  unfolding IsDistinct
  before_absent [] i k v distinct at = absurd (true≢false (sym (ap is_some at)))
  before_absent (e ∷ es) zero k v distinct at = refl
  before_absent (e ∷ es) (suc i) k v distinct at =
      let apart : bytes_eq (string_bytes k) (string_bytes e.0) ≡ false = differ_back (string_bytes e.0) (string_bytes k) (key_has (λ y. string_eq e.0 y ≡ false) es i k v distinct.0 at) in
      ap (λ b. is_some (cond b (Some e.1) (lookup (bytes_eq (string_bytes k)) (by_text (take i es))))) apart ∙ before_absent es i k v distinct.1 at

  -- One entry more is copied: the copies are then those of one entry more.
  pub one_copied : (es copies new : List (String Z × X)) (i : ℕ) (k own : String Z) (v w : X) → IsDistinct string_eq (keys_of es) → slice_get es i ≡ Some (k, v)
      → string_bytes own ≡ string_bytes k → w ≡ v → by_text copies ≡ by_text (take i es) → new ≡ insert_entry string_eq copies own w → by_text new ≡ by_text (take (i + 1) es)
  one_copied es copies new i k own v w distinct at named valued so_far inserted =
      let absent : is_some (lookup (bytes_eq (string_bytes own)) (by_text copies)) ≡ false =
      ap (λ n. is_some (lookup (bytes_eq n) (by_text copies))) named ∙ ap (λ l. is_some (lookup (bytes_eq (string_bytes k)) l)) so_far ∙ before_absent es i k v distinct at in
      let next : suc i ≡ i + 1 = omega arith in
      ap by_text inserted
      ∙ by_text_insert string_eq (λ x y. refl) copies own w absent
      ∙ ap (λ l. l ++ (string_bytes own, w) ∷ []) so_far
      ∙ ap (λ n. by_text (take i es) ++ (n, w) ∷ []) named
      ∙ ap (λ x. by_text (take i es) ++ (string_bytes k, x) ∷ []) valued
      ∙ sym (map-append (λ e. (string_bytes e.0, e.1)) (take i es) ((k, v) ∷ []))
      ∙ ap by_text (sym (take-suc es i (k, v) (slice_get_within es i (k, v) at) ∙ ap (λ e. take i es ++ e ∷ []) (get_or_from_slice_get es i (k, v) (k, v) at)))
      ∙ ap (λ n. by_text (take n es)) next

module _ {K X : Type 0} (P : X → Type 0) where
  -- what holds of each value and of one more holds of each once that one is inserted
  pub All-inserted : (eq : K → K → Bool) (es : List (K × X)) (k : K) (v : X) → All (λ e. P e.1) es → P v → All (λ e. P e.1) (insert_entry eq es k v)
  All-inserted eq [] k v all this = All-cons (λ e. P e.1) (k, v) [] this all
  All-inserted eq (e ∷ es) k v all this = cond_both (eq k e.0) ((e.0, v) ∷ es) (e ∷ insert_entry eq es k v) (All (λ e. P e.1))
      (λ _. All-cons (λ e. P e.1) (e.0, v) es this (All-tail (λ e. P e.1) e es all))
      (λ _. All-cons (λ e. P e.1) e (insert_entry eq es k v) (All-head (λ e. P e.1) e es all) (All-inserted eq es k v (All-tail (λ e. P e.1) e es all) this))

  -- and once it is the value of a key that is there
  pub All-changed : (test : K → Bool) (es : List (K × X)) (v : X) → All (λ e. P e.1) es → P v → All (λ e. P e.1) (set_value test es v)
  All-changed test [] v all this = all
  All-changed test (e ∷ es) v all this = cond_both (test e.0) ((e.0, v) ∷ es) (e ∷ set_value test es v) (All (λ e. P e.1))
      (λ _. All-cons (λ e. P e.1) (e.0, v) es this (All-tail (λ e. P e.1) e es all))
      (λ _. All-cons (λ e. P e.1) e (set_value test es v) (All-head (λ e. P e.1) e es all) (All-changed test es v (All-tail (λ e. P e.1) e es all) this))

module _ {Z X : Type 0} (P : X → Type 0) where
  -- what holds of each value holds of each beside the bytes of its text, and the other way round
  pub All-by_text : (es : List (String Z × X)) → All (λ e. P e.1) es → All (λ e. P e.1) (by_text es)
  All-by_text es all = All-map (λ e. P e.1) (λ e. (string_bytes e.0, e.1)) es all

  pub All-from_text : (es : List (String Z × X)) → All (λ e. P e.1) (by_text es) → All (λ e. P e.1) es
  All-from_text [] all = All-nil (λ e. P e.1)
  All-from_text (e ∷ es) all =
      All-cons (λ e. P e.1) e es (All-head (λ e. P e.1) (string_bytes e.0, e.1) (by_text es) all) (All-from_text es (All-tail (λ e. P e.1) (string_bytes e.0, e.1) (by_text es) all))

-- a module that is new goes last
pub change_new : (change : HostModule → HostModule) (name : List ℕ) (ms : List (List ℕ × HostModule)) → lookup (bytes_eq name) ms ≡ None → ms ++ (name, change empty_module) ∷ [] ≡ change_module change name ms
change_new change name [] none = refl
change_new change name (m ∷ ms) none = by (bytes_eq name m.0) refl (change_new change name ms)
  where
    by : (b : Bool) → bytes_eq name m.0 ≡ b → (lookup (bytes_eq name) ms ≡ None → ms ++ (name, change empty_module) ∷ [] ≡ change_module change name ms) → (m ∷ ms) ++ (name, change empty_module) ∷ [] ≡ change_module change name (m ∷ ms)
    by true p rest = absurd (true≢false (ap is_some (ap (λ b. cond b (Some m.1) (lookup (bytes_eq name) ms)) (sym p) ∙ none)))
    by false p rest = ap (λ r. m ∷ r) (rest (ap (λ b. cond b (Some m.1) (lookup (bytes_eq name) ms)) (sym p) ∙ none))
        ∙ ap (λ b. cond b ((m.0, change m.1) ∷ ms) (m ∷ change_module change name ms)) (sym p)

module _ {Z : Type 0} where
  -- a module that is there is changed in its place
  pub change_there : (change : HostModule → HostModule) (name : List ℕ) (es : List (String Z × HostModule)) (w v : HostModule) → lookup (λ k. bytes_eq name (string_bytes k)) es ≡ Some v → w ≡ change v
      → by_text (set_value (λ k. bytes_eq name (string_bytes k)) es w) ≡ change_module change name (by_text es)
  change_there change name [] w v found is = absurd (true≢false (ap is_some (sym found)))
  change_there change name (e ∷ es) w v found is = by (bytes_eq name (string_bytes e.0)) refl (change_there change name es w v)
    where
      by : (b : Bool) → bytes_eq name (string_bytes e.0) ≡ b
          → (lookup (λ k. bytes_eq name (string_bytes k)) es ≡ Some v → w ≡ change v → by_text (set_value (λ k. bytes_eq name (string_bytes k)) es w) ≡ change_module change name (by_text es))
          → by_text (set_value (λ k. bytes_eq name (string_bytes k)) (e ∷ es) w) ≡ change_module change name (by_text (e ∷ es))
      by true p rest =
          let same : e.1 ≡ v = ap (λ r. unwrap_or r e.1) (ap (λ b. cond b (Some e.1) (lookup (λ k. bytes_eq name (string_bytes k)) es)) (sym p) ∙ found) in
          ap (λ b. by_text (cond b ((e.0, w) ∷ es) (e ∷ set_value (λ k. bytes_eq name (string_bytes k)) es w))) p
          ∙ ap (λ x. (string_bytes e.0, x) ∷ by_text es) (is ∙ ap change (sym same))
          ∙ ap (λ b. cond b ((string_bytes e.0, change e.1) ∷ by_text es) ((string_bytes e.0, e.1) ∷ change_module change name (by_text es))) (sym p)
      by false p rest =
          ap (λ b. by_text (cond b ((e.0, w) ∷ es) (e ∷ set_value (λ k. bytes_eq name (string_bytes k)) es w))) p
          ∙ ap (λ r. (string_bytes e.0, e.1) ∷ r) (rest (ap (λ b. cond b (Some e.1) (lookup (λ k. bytes_eq name (string_bytes k)) es)) (sym p) ∙ found) is)
          ∙ ap (λ b. cond b ((string_bytes e.0, change e.1) ∷ by_text es) ((string_bytes e.0, e.1) ∷ change_module change name (by_text es))) (sym p)

-- what holds at Ok gives what follows from it there, and so at Err
pub on_ok : {T E : Type 0} {P Q : Type 0} (r : Result T E) → (P → Q) → OnOk r P → OnOk r Q
on_ok (Ok x) f p = f p
on_ok (Err e) f p = p

pub on_err : {T E : Type 0} {P Q : Type 0} (r : Result T E) → (P → Q) → OnErr r P → OnErr r Q
on_err (Ok x) f p = p
on_err (Err e) f p = f p

second_false : (a b : Bool) → (a || b) ≡ false → b ≡ false
second_false true b p = absurd (true≢false p)
second_false false b p = p

added_last : (name : List ℕ) (ty : FuncType) (m : HostModule) → declares name m ≡ false → record m { functions = m.functions ++ (name, ty) ∷ [] } ≡ with_function name ty m
added_last name ty m none = ap (λ b. cond b m (record m { functions = m.functions ++ (name, ty) ∷ [] })) (sym none)

module _ {Z : Type 0} where
  -- a module with these entries
  abbrev module_of : List (String Z × FuncType) → Bool → HostModule
  module_of es rest = record { functions = by_text es; rest = rest }

  -- host names with these entries
  abbrev names_of : List (String Z × HostModule) → HostNames
  names_of es = record { modules = by_text es }

  -- a function that isn't declared is added
  pub function_added : (es new : List (String Z × FuncType)) (rest : Bool) (k : String Z) (ty : FuncType) (name : List ℕ) (old : HostModule)
      → module_of es rest ≡ old → new ≡ insert_entry string_eq es k ty → string_bytes k ≡ name → declares name old ≡ false
      → module_of new rest ≡ with_function name ty old
  function_added es new rest k ty name old view inserted named none =
      let undeclared : declares (string_bytes k) (module_of es rest) ≡ false = ap (λ n. declares n (module_of es rest)) named ∙ ap (declares name) view ∙ none in
      let m : HostModule = module_of es rest in
      ap (λ x. module_of x rest) inserted
      ∙ ap (λ (fs : List (List ℕ × FuncType)). record m { functions = fs }) (by_text_insert string_eq (λ x y. refl) es k ty (second_false rest (is_some (lookup (bytes_eq (string_bytes k)) (by_text es))) undeclared))
      ∙ added_last (string_bytes k) ty m undeclared
      ∙ ap (λ n. with_function n ty m) named
      ∙ ap (with_function name ty) view

  -- a module that is there was changed
  pub module_changed : (change : HostModule → HostModule) (from : List ℕ) (es new : List (String Z × HostModule)) (w v : HostModule) (old : HostNames)
      → names_of es ≡ old → new ≡ set_value (λ k. bytes_eq from (string_bytes k)) es w → lookup (λ k. bytes_eq from (string_bytes k)) es ≡ Some v → w ≡ change v
      → names_of new ≡ record { modules = change_module change from old.modules }
  module_changed change from es new w v old view written found changed =
      ap names_of written
      ∙ ap (λ (ms : List (List ℕ × HostModule)). record old { modules = ms }) (change_there change from es w v found changed)
      ∙ ap (λ (n : HostNames). record old { modules = change_module change from n.modules }) view

  -- a module that is there wasn't changed
  pub module_unchanged : (from : List ℕ) (es new : List (String Z × HostModule)) (w v : HostModule) (old : HostNames)
      → names_of es ≡ old → new ≡ set_value (λ k. bytes_eq from (string_bytes k)) es w → lookup (λ k. bytes_eq from (string_bytes k)) es ≡ Some v → w ≡ v
      → names_of new ≡ old
  module_unchanged from es new w v old view written found same =
      ap names_of (written ∙ set_value_same (λ k. bytes_eq from (string_bytes k)) es w (found ∙ ap Some (sym same))) ∙ view

  -- a new module was added
  pub module_added : (change : HostModule → HostModule) (from : List ℕ) (es new : List (String Z × HostModule)) (k : String Z) (w : HostModule) (old : HostNames)
      → names_of es ≡ old → new ≡ insert_entry string_eq es k w → string_bytes k ≡ from → lookup (bytes_eq from) old.modules ≡ None → w ≡ change empty_module
      → names_of new ≡ record { modules = change_module change from old.modules }
  module_added change from es new k w old view inserted named none changed =
      let absent : lookup (bytes_eq (string_bytes k)) (by_text es) ≡ None = ap (λ n. lookup (bytes_eq n) (by_text es)) named ∙ ap (λ (n : HostNames). lookup (bytes_eq from) n.modules) view ∙ none in
      ap names_of inserted
      ∙ ap (λ (ms : List (List ℕ × HostModule)). record old { modules = ms }) (by_text_insert string_eq (λ x y. refl) es k w (ap is_some absent)
      ∙ ap (λ x. by_text es ++ (string_bytes k, x) ∷ []) changed
      ∙ change_new change (string_bytes k) (by_text es) absent
      ∙ ap (λ n. change_module change n (by_text es)) named
      ∙ ap (λ (n : HostNames). change_module change from n.modules) view)
