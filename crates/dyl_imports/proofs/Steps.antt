-- Loops over members and imports, one step on.
use Rattle.std.proofs.Common.{◌≡◌, ℕ, ◌+◌, ◌<◌, ◌≤◌, Bool, ◌||◌, List, [], ◌∷◌, ◌++◌, map, length, take, drop, Some, None, slice_get, get_or, refl, ap, ap₂, sym, subst, ◌∙◌, arith}
use Rattle.std.specs.List.{flat_map, list_any, range_with_len}
use Rattle.std.specs.Option.{option_map}
use Rattle.std.proofs.lemmas.List.{drop_more, at_drop_all, map_more, length-map, length-take-le}
use Rattle.std.proofs.lemmas.Option.{slice_get-map, slice_get_read}
use Rattle.wasm_form.specs.declared.module.Import.{Import}
use Rattle.wasm_form.specs.declared.module.Module.{Module}
use Rattle.wasm_form.specs.declared.runtime.Ref.{Ref}
use Rattle.wasm_form.specs.declared.runtime.Ref.TheVariants.{Own}
use Rattle.spec_loading.specs.spec_binary.IndexSpaces.{functions_in}
use Rattle.spec_loading.specs.spec_validation.Faults.{fault}
use Rattle.spec_loading.specs.spec_runtime.Names.{HostName}
use Rattle.spec_loading.specs.spec_linking.Sets as sets
use Rattle.spec_loading.specs.spec_linking.Definitions.{is_one_of, is_weak}
use Rattle.spec_loading.specs.spec_linking.Imports.{use_of, importing}
use Rattle.spec_loading.specs.spec_linking.LinkedSets.{LinkedSet, host_of_import, hosts_from, hosts_of, first_names, function_ref, is_weak_in}
use Rattle.spec_loading.specs.spec_linking.Links.{members_fault}
use Rattle.spec_loading.specs.Members.{loader_as, loader_from}
use Rattle.dyl_search.specs.declared.set.Member.{Member}
use Rattle.dyl_search.specs.Gathers.{member_of}
use Rattle.dyl_imports.specs.Few.{AreFew}
use Rattle.dyl_imports.specs.Hosts.{with_hosts}
use Rattle.dyl_imports.specs.Refs.{imported_refs}
use Rattle.dyl_imports.specs.Weak.{AreWeakOf, weak_in}
use Rattle.dyl_imports.proofs.EachOnce.{with_hosts-append, first_all}
use Rattle.dyl_imports.proofs.Noted.{weak_more}
use Rattle.dyl_imports.proofs.ByNumber.{functions_listed, count_of_refs}

item_at : {A : Type 0} (xs : List A) (i : ℕ) (x : A) → i < length xs → x ≡ get_or xs i x → drop i xs ≡ x ∷ drop (i + 1) xs
item_at xs i x less at = drop_more xs i x less ∙ ap (λ y. y ∷ drop (i + 1) xs) (sym at)

-- what a member imports and defines is little
pub few_here : (xs : List Member) (m : ℕ) (x : Member) (wasm : Module) → AreFew xs → m < length xs → x ≡ get_or xs m x → wasm ≡ x.checked → length wasm.imports + length wasm.funcs ≤ 16777216
few_here xs m x wasm few less at same = subst (λ (w : Module). length w.imports + length w.funcs ≤ 16777216) (sym same) (few m x (slice_get_read xs (length xs) m x refl less at))

-- ---- host functions

pub more_imports : (f : Import → List HostName) (known new all : List HostName) (xs : List Import) (i : ℕ) (x : Import) → i < length xs → x ≡ get_or xs i x
    → with_hosts known (flat_map f (drop i xs)) ≡ all → new ≡ with_hosts known (f x) → with_hosts new (flat_map f (drop (i + 1) xs)) ≡ all
more_imports f known new all xs i x less at so_far added =
    ap (λ k. with_hosts k (flat_map f (drop (i + 1) xs))) added
    ∙ sym (with_hosts-append known (f x) (flat_map f (drop (i + 1) xs)))
    ∙ ap (λ r. with_hosts known (flat_map f r)) (sym (item_at xs i x less at))
    ∙ so_far

pub more_members : (L : LinkedSet) (known new all : List HostName) (xs : List Member) (m : ℕ) (x : Member) (wasm : Module) → m < length xs → x ≡ get_or xs m x → wasm ≡ x.checked
    → with_hosts known (hosts_from L m (map member_of (drop m xs))) ≡ all → new ≡ with_hosts known (flat_map (host_of_import L m wasm) wasm.imports)
    → with_hosts new (hosts_from L (m + 1) (map member_of (drop (m + 1) xs))) ≡ all
more_members L known new all xs m x wasm less at same so_far added =
    let rest = hosts_from L (m + 1) (map member_of (drop (m + 1) xs)) in
    ap (λ k. with_hosts k rest) (added ∙ ap (λ (w : Module). with_hosts known (flat_map (host_of_import L m w) w.imports)) same)
    ∙ sym (with_hosts-append known (flat_map (host_of_import L m x.checked) x.checked.imports) rest)
    ∙ ap (λ r. with_hosts known (hosts_from L m (map member_of r))) (sym (item_at xs m x less at))
    ∙ so_far

pub all_members : (L : LinkedSet) (hosts : List HostName) (xs : List Member) (m : ℕ) → length xs ≤ m → L.set.members ≡ map member_of xs
    → with_hosts hosts (hosts_from L m (map member_of (drop m xs))) ≡ with_hosts [] (hosts_from L 0 (map member_of xs)) → hosts ≡ hosts_of L
all_members L hosts xs m past members so_far =
    sym (at_drop_all (λ r. with_hosts hosts (hosts_from L m (map member_of r))) xs m past) ∙ so_far
    ∙ first_all (hosts_from L 0 (map member_of xs)) ∙ ap (λ ms. first_names [] (hosts_from L 0 ms)) (sym members)

-- ---- weak names

pub weak_step : (xs : List Member) (weak new : List (List (List ℕ))) (i : ℕ) (x : Member) (w : List (List ℕ)) → i < length xs → x ≡ get_or xs i x → length weak ≡ i
    → AreWeakOf (map member_of (take i xs)) weak → ((name : List ℕ) → is_one_of name w ≡ is_weak (member_of x).dylink name) → new ≡ weak ++ w ∷ [] → AreWeakOf (map member_of (take (i + 1) xs)) new
weak_step xs weak new i x w less at count of here added m name =
    let counts : length (map member_of (take i xs)) ≡ length weak = length-map (take i xs) member_of ∙ length-take-le i xs (omega arith) ∙ sym count in
    ap (λ ws. weak_in ws m name) added
    ∙ weak_more (map member_of (take i xs)) weak (member_of x) w counts of here m name
    ∙ ap (λ ms. is_weak_in (slice_get ms m) name) (sym (map_more member_of xs i x less ∙ ap (λ y. map member_of (take i xs) ++ member_of y ∷ []) (sym at)))

-- ---- functions

pub member_here : (L : LinkedSet) (xs : List Member) (m : ℕ) (x : Member) → L.set.members ≡ map member_of xs → m < length xs → x ≡ get_or xs m x → slice_get L.set.members m ≡ Some (member_of x)
member_here L xs m x members less at =
    ap (λ ms. slice_get ms m) members ∙ slice_get-map member_of xs m ∙ ap (λ o. option_map member_of o) (slice_get_read xs (length xs) m x refl less at)

pub listed_all : (L : LinkedSet) (m : ℕ) (member : sets.Member) (wasm : Module) (refs all : List Ref) (imports : List Import) (funcs : List ℕ)
    → wasm ≡ member.wasm → imports ≡ wasm.imports → funcs ≡ wasm.funcs → fault member.wasm ≡ None → members_fault L 0 L.set.members ≡ None → slice_get L.set.members m ≡ Some member
    → refs ≡ imported_refs L m 0 (importing functions_in imports) → all ≡ refs ++ map (Own m) (range_with_len (length refs) (length funcs)) → (f : ℕ) → slice_get all f ≡ function_ref L m f
listed_all L m member wasm refs all imports funcs same same_imports same_funcs valid none here first added f =
    let is : refs ≡ imported_refs L m 0 (importing functions_in member.wasm.imports) =
    first ∙ ap (λ is. imported_refs L m 0 (importing functions_in is)) (same_imports ∙ ap (λ (w : Module). w.imports) same) in
    let count : length refs ≡ length (importing functions_in member.wasm.imports) = ap (λ (rs : List Ref). length rs) is ∙ count_of_refs L m 0 (importing functions_in member.wasm.imports) in
    let funcs_count : length funcs ≡ length member.wasm.funcs = ap (λ (fs : List ℕ). length fs) (same_funcs ∙ ap (λ (w : Module). w.funcs) same) in
    ap (λ (rs : List Ref). slice_get rs f) (added ∙ ap₂ (λ (r : List Ref) (n : ℕ). r ++ map (Own m) (range_with_len (length refs) n)) is funcs_count)
    ∙ functions_listed L m member valid none here (length refs) count f

-- ---- functions of the loader

pub loader_step : (L : LinkedSet) (xs : List Member) (m : ℕ) (x : Member) (wasm : Module) (imports : List Import) (b : Bool) → m < length xs → x ≡ get_or xs m x → wasm ≡ x.checked → imports ≡ wasm.imports
    → b ≡ list_any (λ i. loader_as L m i (use_of i)) imports → loader_from L m (map member_of (drop m xs)) ≡ (b || loader_from L (m + 1) (map member_of (drop (m + 1) xs)))
loader_step L xs m x wasm imports b less at same same_imports any =
    ap (λ r. loader_from L m (map member_of r)) (item_at xs m x less at)
    ∙ ap (λ c. c || loader_from L (m + 1) (map member_of (drop (m + 1) xs))) (sym (any ∙ ap (λ is. list_any (λ i. loader_as L m i (use_of i)) is) (same_imports ∙ ap (λ (w : Module). w.imports) same)))
