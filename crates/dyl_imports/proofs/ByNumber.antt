-- What the numbers of a member's functions name.
use Rattle.std.proofs.Common.{◌≡◌, ℕ, zero, suc, ◌+◌, ◌-◌, ◌<◌, ◌≤◌, Bool, true, false, List, [], ◌∷◌, ◌++◌, map, length, Option, Some, None, slice_get, nat_lt, nat_eq, unwrap_or, refl, ap, sym, ◌∙◌, subst, arith, length-append, ◌⊎◌, inl, inr, zero-add}
use Rattle.std.specs.List.{range_with_len, list_all}
use Rattle.std.proofs.lemmas.Option.{slice_get_past}
use Rattle.std.proofs.lemmas.List.FromFn.{length-map-range_with_len}
use Rattle.std.proofs.lemmas.Bool.{and_parts}
use Rattle.std.proofs.lemmas.Bool.Decides.{nat_tests}
use Rattle.wasm_form.specs.declared.types.FuncType.{FuncType}
use Rattle.wasm_form.specs.declared.module.ImportDesc.{ImportDesc}
use Rattle.wasm_form.specs.declared.module.ImportDesc.TheVariants as imported
use Rattle.wasm_form.specs.declared.module.Import.{Import}
use Rattle.wasm_form.specs.declared.module.Module.{Module}
use Rattle.wasm_form.specs.declared.runtime.Ref.{Ref}
use Rattle.wasm_form.specs.declared.runtime.Ref.TheVariants.{Own, Stub}
use Rattle.spec_loading.specs.spec_binary.Options.{◌>>=◌}
use Rattle.spec_loading.specs.spec_binary.IndexSpaces.{functions_in, imports_of, function_space}
use Rattle.spec_loading.specs.spec_binary.Indices.{function_type}
use Rattle.spec_loading.proofs.of_spec_binary.Lists.{got, slice_get-append-left, slice_get-append-right}
use Rattle.spec_loading.specs.spec_validation.Faults.{fault, is_type}
use Rattle.spec_loading.proofs.of_spec_validation.Parts.{parts_fit, function_types}
use Rattle.spec_loading.specs.spec_linking.Sets.{Member}
use Rattle.spec_loading.specs.spec_linking.Imports.{importing, use_of}
use Rattle.spec_loading.specs.spec_linking.LinkedSets.{LinkedSet, imported_ref, ref_with, function_ref}
use Rattle.spec_loading.specs.spec_binary.Exports.{relocations_name, constructors_name}
use Rattle.spec_loading.specs.spec_linking.declared.fault.LinkFault.TheVariants.{OwnMemory}
use Rattle.spec_loading.specs.spec_linking.Links.{◌or_else◌, members_fault, import_fault, first_fault, unless, tls_fault, loader_call_fault, member_fault}
use Rattle.spec_loading.proofs.of_spec_linking.Importing.{importing_length}
use Rattle.spec_loading.proofs.of_spec_linking.LinkedFacts.{or_none, each_none, member_none}
use Rattle.spec_loading.proofs.of_spec_linking.LinkedFunctions.{ref_there}
use Rattle.dyl_imports.specs.Refs.{imported_refs}

-- ---- imports of functions

record IsFunctionImport (is : List Import) (i : Import) : Type 0 where
  place : ℕ
  ty : ℕ
  there : slice_get is place ≡ Some i
  desc : i.desc ≡ imported.Func ty

later : (x : Import) (is : List Import) (i : Import) → IsFunctionImport is i → IsFunctionImport (x ∷ is) i
later x is i f = record { place = suc f.place; ty = f.ty; there = f.there; desc = f.desc }

function_import : (is : List Import) (f : ℕ) (i : Import) → slice_get (importing functions_in is) f ≡ Some i → IsFunctionImport is i
function_import [] f i e = absurd cc
function_import (x ∷ is) f i e = by x.desc refl f e (function_import is)
  where
    by : (d : ImportDesc) → x.desc ≡ d → (f : ℕ) → slice_get (map (λ y. x) (functions_in d) ++ importing functions_in is) f ≡ Some i
        → ((g : ℕ) (j : Import) → slice_get (importing functions_in is) g ≡ Some j → IsFunctionImport is j) → IsFunctionImport (x ∷ is) i
    by (imported.Func t) d zero e rest = let same : x ≡ i = cc in record { place = 0; ty = t; there = e; desc = ap (λ y. y.desc) (sym same) ∙ d }
    by (imported.Func t) d (suc g) e rest = later x is i (rest g i e)
    by (imported.Table ty) d g e rest = later x is i (rest g i e)
    by (imported.Space limits) d g e rest = later x is i (rest g i e)
    by (imported.Global ty) d g e rest = later x is i (rest g i e)

-- ---- no member is at fault

imports_none : (L : LinkedSet) (m : ℕ) (member : Member) → members_fault L 0 L.set.members ≡ None → slice_get L.set.members m ≡ Some member
    → first_fault (import_fault L m member.wasm) member.wasm.imports ≡ None
imports_none L m member none at =
    let here : member_fault L m member ≡ None = subst (λ k. member_fault L k member ≡ None) (zero-add m) (member_none L 0 L.set.members m member none at) in
    let imports = first_fault (import_fault L m member.wasm) member.wasm.imports in
    let constructors = loader_call_fault m member.wasm constructors_name in
    let relocations = loader_call_fault m member.wasm relocations_name in
    let exports = first_fault (tls_fault m) member.dylink.exports in
    let one = or_none (unless (nat_eq (length member.wasm.memories) 0) (OwnMemory m)) (exports or_else (relocations or_else (constructors or_else imports))) here in
    let two = or_none exports (relocations or_else (constructors or_else imports)) one.1 in
    let three = or_none relocations (constructors or_else imports) two.1 in
    (or_none constructors imports three.1).1

-- ---- by numbers

listed : (L : LinkedSet) (m k : ℕ) (is : List Import) (f : ℕ) (i : Import) → slice_get is f ≡ Some i → slice_get (imported_refs L m k is) f ≡ Some (unwrap_or (imported_ref L m (k + f) i) (Stub m (k + f)))
listed L m k [] f i e = absurd cc
listed L m k (x ∷ is) zero i e =
    let same : x ≡ i = cc in
    let here : k ≡ k + 0 = omega arith in
    (λ j. Some (unwrap_or (imported_ref L m (here j) (same j)) (Stub m (here j))))
listed L m k (x ∷ is) (suc f) i e =
    let here : (k + 1) + f ≡ k + suc f = omega arith in
    listed L m (k + 1) is f i e ∙ (λ j. Some (unwrap_or (imported_ref L m (here j) i) (Stub m (here j))))

pub count_of_refs : (L : LinkedSet) (m k : ℕ) (is : List Import) → length (imported_refs L m k is) ≡ length is
count_of_refs L m k [] = refl
count_of_refs L m k (i ∷ is) = ap suc (count_of_refs L m (k + 1) is)

own_listed : (m k n j : ℕ) → j < n → slice_get (map (Own m) (range_with_len k n)) j ≡ Some (Own m (k + j))
own_listed m k zero j less = absurd (omega arith)
own_listed m k (suc n) zero less = let here : k ≡ k + 0 = omega arith in ap (λ x. Some (Own m x)) here
own_listed m k (suc n) (suc j) less = let here : (k + 1) + j ≡ k + suc j = omega arith in own_listed m (k + 1) n j (omega arith) ∙ ap (λ x. Some (Own m x)) here

type_at : (wasm : Module) (ts : List ℕ) (f : ℕ) → list_all (is_type wasm) ts ≡ true → f < length ts → (ty : FuncType) × ((slice_get ts f >>= λ t. slice_get wasm.types t) ≡ Some ty)
type_at wasm [] f all less = absurd (omega arith)
type_at wasm (t ∷ ts) zero all less =
    let here : nat_lt t (length wasm.types) ≡ true = (and_parts (is_type wasm t) (list_all (is_type wasm) ts) all).0 in
    got wasm.types t (grind (arith, nat_tests))
type_at wasm (t ∷ ts) (suc f) all less = type_at wasm ts f (and_parts (is_type wasm t) (list_all (is_type wasm) ts) all).1 (omega arith)

with_type : (L : LinkedSet) (m f : ℕ) (member : Member) (ty : FuncType) → slice_get L.set.members m ≡ Some member → function_type member.wasm f ≡ Some ty
    → function_ref L m f ≡ ref_with L m f (slice_get (importing functions_in member.wasm.imports) f) (Own m f)
with_type L m f member ty at typed =
    ap (λ (o : Option Member). (o >>= λ x. Some x.wasm) >>= λ wasm. function_type wasm f >>= λ t. ref_with L m f (slice_get (importing functions_in wasm.imports) f) (Own m f)) at
    ∙ ap (λ (o : Option FuncType). o >>= λ t. ref_with L m f (slice_get (importing functions_in member.wasm.imports) f) (Own m f)) typed

without_type : (L : LinkedSet) (m f : ℕ) (member : Member) → slice_get L.set.members m ≡ Some member → function_type member.wasm f ≡ None → function_ref L m f ≡ None
without_type L m f member at none =
    ap (λ (o : Option Member). (o >>= λ x. Some x.wasm) >>= λ wasm. function_type wasm f >>= λ t. ref_with L m f (slice_get (importing functions_in wasm.imports) f) (Own m f)) at
    ∙ ap (λ (o : Option FuncType). o >>= λ t. ref_with L m f (slice_get (importing functions_in member.wasm.imports) f) (Own m f)) none

-- what an import is that isn't at fault
is_there : (L : LinkedSet) (m f : ℕ) (member : Member) (i : Import) → members_fault L 0 L.set.members ≡ None → slice_get L.set.members m ≡ Some member
    → slice_get (importing functions_in member.wasm.imports) f ≡ Some i → Some (unwrap_or (imported_ref L m f i) (Stub m f)) ≡ imported_ref L m f i
is_there L m f member i none at here =
    let x = function_import member.wasm.imports f i here in
    let fine = each_none (import_fault L m member.wasm) member.wasm.imports x.place i (imports_none L m member none at) x.there in
    let r = ref_there L m f member.wasm i x.ty x.desc (use_of i) fine in
    ap (λ o. Some (unwrap_or o (Stub m f))) r.1 ∙ sym r.1

abbrev listed_functions : LinkedSet → ℕ → Module → ℕ → List Ref
listed_functions L m wasm k = imported_refs L m 0 (importing functions_in wasm.imports) ++ map (Own m) (range_with_len k (length wasm.funcs))

-- a member at a number, without a fault
record IsAt (L : LinkedSet) (m : ℕ) (member : Member) : Type 0 where
  valid : fault member.wasm ≡ None
  none : members_fault L 0 L.set.members ≡ None
  here : slice_get L.set.members m ≡ Some member

space_length : (wasm : Module) → length (function_space wasm) ≡ length (importing functions_in wasm.imports) + length wasm.funcs
space_length wasm = length-append (imports_of functions_in wasm.imports) wasm.funcs ∙ ap (λ n. n + length wasm.funcs) (sym (importing_length functions_in wasm.imports))

typed_at : (L : LinkedSet) (m f : ℕ) (member : Member) → IsAt L m member → f < length (importing functions_in member.wasm.imports) + length member.wasm.funcs
    → function_ref L m f ≡ ref_with L m f (slice_get (importing functions_in member.wasm.imports) f) (Own m f)
typed_at L m f member at less =
    let wasm = member.wasm in
    let count = space_length wasm in
    let ty = type_at wasm (function_space wasm) f (function_types wasm (parts_fit wasm at.valid)) (omega (arith, count)) in
    with_type L m f member ty.0 at.here ty.1

imported_listed : (L : LinkedSet) (m k f : ℕ) (member : Member) → IsAt L m member → f < length (importing functions_in member.wasm.imports) → slice_get (listed_functions L m member.wasm k) f ≡ function_ref L m f
imported_listed L m k f member at less =
    let wasm = member.wasm in
    let xs = importing functions_in wasm.imports in
    let i = got xs f less in
    let count = count_of_refs L m 0 xs in
    slice_get-append-left (imported_refs L m 0 xs) (map (Own m) (range_with_len k (length wasm.funcs))) f (omega (arith, count))
    ∙ listed L m 0 xs f i.0 i.1
    ∙ ap (λ n. Some (unwrap_or (imported_ref L m n i.0) (Stub m n))) (zero-add f)
    ∙ is_there L m f member i.0 at.none at.here i.1
    ∙ sym (typed_at L m f member at (omega arith) ∙ ap (λ o. ref_with L m f o (Own m f)) i.1)

rest_listed : (L : LinkedSet) (m k f : ℕ) (member : Member) → IsAt L m member → k ≡ length (importing functions_in member.wasm.imports) → k ≤ f → f < k + length member.wasm.funcs
    → slice_get (listed_functions L m member.wasm k) f ≡ function_ref L m f
rest_listed L m k f member at is above less =
    let wasm = member.wasm in
    let xs = importing functions_in wasm.imports in
    let count = count_of_refs L m 0 xs in
    let place : k + (f - length (imported_refs L m 0 xs)) ≡ f = omega (arith, count) in
    slice_get-append-right (imported_refs L m 0 xs) (map (Own m) (range_with_len k (length wasm.funcs))) f (omega (arith, count))
    ∙ own_listed m k (length wasm.funcs) (f - length (imported_refs L m 0 xs)) (omega (arith, count))
    ∙ ap (λ n. Some (Own m n)) place
    ∙ sym (typed_at L m f member at (omega arith) ∙ ap (λ o. ref_with L m f o (Own m f)) (slice_get_past xs f (omega arith)))

none_listed : (L : LinkedSet) (m k f : ℕ) (member : Member) → IsAt L m member → k ≡ length (importing functions_in member.wasm.imports) → k + length member.wasm.funcs ≤ f
    → slice_get (listed_functions L m member.wasm k) f ≡ function_ref L m f
none_listed L m k f member at is past =
    let wasm = member.wasm in
    let xs = importing functions_in wasm.imports in
    let count = count_of_refs L m 0 xs in
    let owned = length-map-range_with_len (Own m) k (length wasm.funcs) in
    let all = length-append (imported_refs L m 0 xs) (map (Own m) (range_with_len k (length wasm.funcs))) in
    let space = space_length wasm in
    slice_get_past (listed_functions L m wasm k) f (omega (arith, count, owned, all))
    ∙ sym (without_type L m f member at.here (ap (λ o. o >>= λ t. slice_get wasm.types t) (slice_get_past (function_space wasm) f (omega (arith, space)))))

either : (a b : ℕ) → (a < b) ⊎ (b ≤ a)
either a b = choose (nat_lt a b) refl
  where
    choose : (t : Bool) → nat_lt a b ≡ t → (a < b) ⊎ (b ≤ a)
    choose true e = inl (grind (arith, nat_tests))
    choose false e = inr (grind (arith, nat_tests))

-- the functions of a member by their numbers, the imported ones first
pub functions_listed : (L : LinkedSet) (m : ℕ) (member : Member) → fault member.wasm ≡ None → members_fault L 0 L.set.members ≡ None → slice_get L.set.members m ≡ Some member
    → (k : ℕ) → k ≡ length (importing functions_in member.wasm.imports) → (f : ℕ) → slice_get (listed_functions L m member.wasm k) f ≡ function_ref L m f
functions_listed L m member valid none here k is f = by (either f k) (either f (k + length member.wasm.funcs))
  where
    at : IsAt L m member
    at = record { valid = valid; none = none; here = here }

    by : (f < k) ⊎ (k ≤ f) → (f < k + length member.wasm.funcs) ⊎ (k + length member.wasm.funcs ≤ f) → slice_get (listed_functions L m member.wasm k) f ≡ function_ref L m f
    by (inl less) b = imported_listed L m k f member at (omega arith)
    by (inr above) (inl less) = rest_listed L m k f member at is above less
    by (inr above) (inr past) = none_listed L m k f member at is past
