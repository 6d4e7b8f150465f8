-- The functions that a module defines under names are numbers of its functions.
use Rattle.std.proofs.Common.{◌≡◌, ℕ, ◌+◌, ◌<◌, ◌≤◌, Bool, true, false, ◌||◌, not, List, [], ◌∷◌, ◌++◌, length, Option, Some, None, refl, sym, ap, ◌∙◌, subst, nat_eq, nat_lt, arith, length-append, if◌then◌else◌, cond}
use Rattle.std.specs.List.{filter}
use Rattle.std.proofs.lemmas.Bool.{and_parts, ltb-true, eqb-true}
use Rattle.wasm_form.specs.declared.module.ExportDesc.{ExportDesc}
use Rattle.wasm_form.specs.declared.module.ExportDesc.TheVariants as desc
use Rattle.wasm_form.specs.declared.module.Export.{Export}
use Rattle.wasm_form.specs.declared.module.GlobalDef.{GlobalDef}
use Rattle.wasm_form.specs.declared.module.Module.{Module}
use Rattle.spec_loading.specs.spec_binary.Options.{◌>>=◌}
use Rattle.spec_loading.specs.spec_binary.IndexSpaces.{imported_count, function_space}
use Rattle.spec_loading.specs.spec_binary.Indices.{is_own}
use Rattle.spec_loading.specs.spec_linking.Orders.{is_among}
use Rattle.spec_loading.specs.spec_linking.Definitions.{plain_number, is_one_of, reserved_names, own_only, own_global, FunctionSymbol, DataSymbol, data_symbol, desc_symbol, function_in, defined_function}
use Rattle.spec_loading.specs.spec_linking.Slots.{with_function, functions_with, defined_functions}
use Rattle.dyl_imports.proofs.of_dyl_scope.Distinct.{among_append, same_number}

module _ (m : Module) where
  abbrev AreBelow : List ℕ → Type 0
  AreBelow fs = (f : ℕ) → is_among f fs ≡ true → f < length (function_space m)

  own_below : (f g : ℕ) (b : Bool) → is_own m f ≡ b → (if b then Some f else None) ≡ Some g → g < length (function_space m)
  own_below f g true q e =
      let same : f ≡ g = cc in
      let lt = ltb-true f (length (function_space m)) (and_parts (not (nat_lt f (imported_count m))) (nat_lt f (length (function_space m))) q).1 in
      subst (λ k. k < length (function_space m)) same lt
  own_below f g false q e = absurd cc

  function_of : (f g : ℕ) (o : Option ℕ) → ((k : ℕ) → o ≡ Some k → k < length (function_space m)) → ((o >>= λ own. Some (FunctionSymbol own)) >>= function_in) ≡ Some g → g < length (function_space m)
  function_of f g None below e = absurd cc
  function_of f g (Some k) below e = let same : k ≡ g = cc in subst (λ n. n < length (function_space m)) same (below k refl)

  no_function : (o : Option ℕ) (g : ℕ) → ((o >>= λ place. Some (DataSymbol place)) >>= function_in) ≡ Some g → ⊥
  no_function None g e = cc
  no_function (Some place) g e = cc

  data_below : (x : GlobalDef) (g : ℕ) → (data_symbol x >>= function_in) ≡ Some g → ⊥
  data_below x g e = by _ (λ o h. no_function o g h) e
    where
      by : (b : Bool) → ((o : Option ℕ) → ((o >>= λ place. Some (DataSymbol place)) >>= function_in) ≡ Some g → ⊥)
          → ((if b then (plain_number x.init >>= λ place. Some (DataSymbol place)) else None) >>= function_in) ≡ Some g → ⊥
      by true none h = none (plain_number x.init) h
      by false none h = cc

  global_below : (o : Option GlobalDef) (g : ℕ) → ((o >>= data_symbol) >>= function_in) ≡ Some g → ⊥
  global_below None g e = cc
  global_below (Some x) g e = data_below x g e

  desc_below : (d : ExportDesc) (g : ℕ) → (desc_symbol m d >>= function_in) ≡ Some g → g < length (function_space m)
  desc_below (desc.Func f) g e = function_of f g (own_only m f) (λ k q. own_below f k (is_own m f) refl q) e
  desc_below (desc.Table n) g e = absurd cc
  desc_below (desc.Space n) g e = absurd cc
  desc_below (desc.Global n) g e = absurd (global_below (own_global m n) g e)

  export_below : (e : Export) (g : ℕ) → defined_function m e ≡ Some g → g < length (function_space m)
  export_below e g q = by (is_one_of e.name reserved_names) q
    where
      by : (b : Bool) → ((if b then None else desc_symbol m e.desc) >>= function_in) ≡ Some g → g < length (function_space m)
      by true h = absurd cc
      by false h = desc_below e.desc g h

  one_more : (known : List ℕ) (g : ℕ) → g < length (function_space m) → AreBelow known → AreBelow (known ++ g ∷ [])
  one_more known g lt below = λ f h. by f (is_among f known) (nat_eq g f) refl refl (sym (among_append f known (g ∷ [])) ∙ h)
    where
      by : (f : ℕ) (a b : Bool) → is_among f known ≡ a → nat_eq g f ≡ b → (is_among f known || (nat_eq g f || false)) ≡ true → f < length (function_space m)
      by f true b p q h = below f p
      by f false true p q h = subst (λ n. n < length (function_space m)) (eqb-true g f q) lt
      by f false false p q h = absurd (let k = rw (p, q) at h in cc)

  added_below : (known : List ℕ) (o : Option ℕ) → ((g : ℕ) → o ≡ Some g → g < length (function_space m)) → AreBelow known → AreBelow (with_function known o)
  added_below known None new below = below
  added_below known (Some g) new below = by (is_among g known)
    where
      by : (b : Bool) → AreBelow (if b then known else known ++ g ∷ [])
      by true = below
      by false = one_more known g (new g refl) below

  exports_below : (known : List ℕ) (es : List Export) → AreBelow known → AreBelow (functions_with m known es)
  exports_below known [] below = below
  exports_below known (e ∷ es) below = exports_below (with_function known (defined_function m e)) es (added_below known (defined_function m e) (export_below e) below)

  pub defined_below : (f : ℕ) → is_among f (defined_functions m) ≡ true → f < length (function_space m)
  defined_below = exports_below [] m.exports (λ f h. absurd cc)

pub filter_same : (s t : ℕ → Bool) (xs : List ℕ) → ((x : ℕ) → is_among x xs ≡ true → s x ≡ t x) → filter s xs ≡ filter t xs
filter_same s t [] same = refl
filter_same s t (x ∷ xs) same =
    let rest = filter_same s t xs (λ y h. same y (later (nat_eq x y) (is_among y xs) h)) in
    ap (λ b. cond b (x ∷ filter s xs) (filter s xs)) (same x (here (nat_eq x x) (is_among x xs) (same_number x)))
    ∙ ap (λ r. cond (t x) (x ∷ r) r) rest
  where
    later : (b c : Bool) → c ≡ true → (b || c) ≡ true
    later true c h = refl
    later false c h = h

    here : (b c : Bool) → b ≡ true → (b || c) ≡ true
    here true c h = refl
    here false c h = absurd cc

pub filter_few : (t : ℕ → Bool) (xs : List ℕ) → length (filter t xs) ≤ length xs
filter_few t [] = omega arith
filter_few t (x ∷ xs) = by (t x) (filter_few t xs)
  where
    by : (b : Bool) → length (filter t xs) ≤ length xs → length (cond b (x ∷ filter t xs) (filter t xs)) ≤ length (x ∷ xs)
    by true le = omega arith
    by false le = omega arith

with_few : (known : List ℕ) (o : Option ℕ) → length (with_function known o) ≤ length known + 1
with_few known None = omega arith
with_few known (Some f) = by (is_among f known)
  where
    by : (b : Bool) → length (if b then known else known ++ f ∷ []) ≤ length known + 1
    by true = omega arith
    by false = omega (arith, length-append known (f ∷ []))

all_few : (m : Module) (known : List ℕ) (es : List Export) → length (functions_with m known es) ≤ length known + length es
all_few m known [] = omega arith
all_few m known (e ∷ es) =
    let rest = all_few m (with_function known (defined_function m e)) es in
    let one = with_few known (defined_function m e) in
    omega arith

pub defined_few : (m : Module) → length (defined_functions m) ≤ length m.exports
defined_few m = let le = all_few m [] m.exports in omega arith
