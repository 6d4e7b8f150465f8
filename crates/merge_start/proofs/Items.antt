-- What the element segments of a valid module hold: functions and nulls.
use Rattle.std.proofs.Common.{◌≡◌, ℕ, ◌^◌, ◌<◌, ◌≤◌, Bool, true, false, ◌&&◌, List, [], ◌∷◌, length, map, get_or, Some, None, refl, sym, subst, arith, length-append}
use Rattle.std.specs.List.{All, list_all}
use Rattle.std.proofs.lemmas.List.Folds.{list_all_at}
use Rattle.std.proofs.lemmas.List.Elements.{All-nil, All-cons}
use Rattle.wasm_form.specs.declared.types.ValType.TheVariants.{FuncRef}
use Rattle.wasm_form.specs.declared.instr.Instr.{Instr, out-Instr}
use Rattle.wasm_form.specs.declared.instr.Instr.TheOpen as Open
use Rattle.wasm_form.specs.declared.instr.Expr.{Expr}
use Rattle.wasm_form.specs.declared.module.ImportDesc.{ImportDesc}
use Rattle.wasm_form.specs.declared.module.ImportDesc.TheVariants as imported
use Rattle.wasm_form.specs.declared.module.Import.{Import}
use Rattle.wasm_form.specs.declared.module.ElemItems.{ElemItems}
use Rattle.wasm_form.specs.declared.module.ElemItems.TheVariants as elem_items
use Rattle.wasm_form.specs.declared.module.Elem.{Elem}
use Rattle.wasm_form.specs.declared.module.Module.{Module}
use Rattle.spec_loading.specs.spec_binary.SameTypes.{same_type}
use Rattle.spec_loading.specs.spec_binary.IndexSpaces.{imports_of, functions_in, function_space}
use Rattle.spec_loading.specs.spec_binary.WellFormed.{IsWellFormed}
use Rattle.spec_loading.specs.spec_validation.Faults.{fault, constant_step, is_constant, items_fit, elem_mode_fits, elem_fits}
use Rattle.spec_loading.proofs.of_spec_validation.Parts.{parts_fit}
use Rattle.spec_loading.specs.spec_linking.LinkedSets.{LinkedSet}
use Rattle.spec_loading.specs.spec_linking.Slots.{fresh_of}
use Rattle.spec_loading.specs.Addresses.{sum_before}
use Rattle.merge_start.specs.declared.numbers.StartNumbers.{StartNumbers}
use Rattle.merge_start.specs.Passive.{functions_at, passive_elem, listed_elem, own_elems, fresh_elems, IsItem, AreItems}
use Rattle.spec_loading.proofs.of_spec_validation.Constants.{reference_alone}

second_holds : (a b : Bool) → (a && b) ≡ true → b ≡ true
second_holds true b h = h
second_holds false b h = absurd cc

all_true : {A : Type 0} (p : A → Bool) (xs : List A) → list_all p xs ≡ true → (k : ℕ) (d : A) → k < length xs → p (get_or xs k d) ≡ true
all_true p xs h k d lt = go (p (get_or xs k d)) refl
  where
    go : (b : Bool) → p (get_or xs k d) ≡ b → b ≡ true
    go true e = refl
    go false e = (let not = list_all_at p xs k d lt e in absurd cc)

step_is_item : (m : Module) (x : Open.Instr-F Instr Expr) → constant_step m x ≡ Some FuncRef → IsItem x
step_is_item m (Open.I32Const n) h = absurd cc
step_is_item m (Open.I64Const n) h = absurd cc
step_is_item m (Open.RefNull t) h = tt
step_is_item m (Open.Index op n) h = tt
step_is_item m _ h = absurd cc

list_is_item : (m : Module) (e : Expr) → is_constant m FuncRef e ≡ true → All (λ i. IsItem (out-Instr i)) e.list
list_is_item m e h =
    let one = reference_alone m e h in
    subst (λ (is : List Instr). All (λ i. IsItem (out-Instr i)) is) (sym one.1)
    (All-cons (λ i. IsItem (out-Instr i)) one.0 [] (step_is_item m (out-Instr one.0) one.2) (All-nil (λ i. IsItem (out-Instr i))))

items_are : (m : Module) (items : ElemItems) → items_fit m items ≡ true → AreItems items
items_are m (elem_items.Funcs fs) h = tt
items_are m (elem_items.Exprs t es) h =
    let all = second_holds (same_type t FuncRef) (list_all (is_constant m FuncRef) es) h in
    λ k d lt. list_is_item m (get_or es k d) (all_true (is_constant m FuncRef) es all k d lt)

pub elems_are : (m : Module) → fault m ≡ None → All (λ (e : Elem). AreItems e.items) m.elems
elems_are m valid = λ k d lt.
    items_are m (get_or m.elems k d).items
    (second_holds (elem_mode_fits m (get_or m.elems k d).mode) (items_fit m (get_or m.elems k d).items)
    (all_true (elem_fits m) m.elems (parts_fit m valid).elems k d lt))

-- ---- how many functions there are

one_function : (d : ImportDesc) → length (functions_in d) ≤ 1
one_function (imported.Func t) = omega arith
one_function (imported.Table ty) = omega arith
one_function (imported.Space limits) = omega arith
one_function (imported.Global ty) = omega arith

functions_within : (is : List Import) → length (imports_of functions_in is) ≤ length is
functions_within [] = omega arith
functions_within (i ∷ is) = (let later = functions_within is in let one = one_function i.desc in omega (arith, length-append (functions_in i.desc) (imports_of functions_in is)))

pub few_imported : (wasm : Module) → IsWellFormed wasm → length (imports_of functions_in wasm.imports) < 2 ^ 32
few_imported wasm formed = (let within = functions_within wasm.imports in let short = formed.imports.0 in omega arith)

pub few_functions : (wasm : Module) → IsWellFormed wasm → length (function_space wasm) < 2 ^ 33
few_functions wasm formed =
    let imports = few_imported wasm formed in
    let own = formed.funcs in
    omega (arith, length-append (imports_of functions_in wasm.imports) wasm.funcs)

-- ---- members

module _ (L : LinkedSet) (s : StartNumbers) (m : ℕ) (wasm : Module) (fs : List ℕ) (at count : ℕ) (listed : fs ≡ s.functions)
    (at_is : at ≡ sum_before (λ w. length (function_space w)) L.set.members m) (count_is : count ≡ length (function_space wasm)) where
  pub own_is : (es : List Elem) → es ≡ wasm.elems
      → map (passive_elem (functions_at fs (record { first = at; count = count })) 0) es ≡ own_elems L s m wasm
  own_is es same = λ i. map (passive_elem (functions_at (listed i) (record { first = at_is i; count = count_is i })) 0) (same i)

  pub fresh_is : (fresh : List ℕ) → fresh ≡ fresh_of L m
      → listed_elem fs (record { first = at; count = count }) fresh ∷ [] ≡ fresh_elems L s m wasm
  fresh_is fresh same = λ i. listed_elem (listed i) (record { first = at_is i; count = count_is i }) (same i) ∷ []
