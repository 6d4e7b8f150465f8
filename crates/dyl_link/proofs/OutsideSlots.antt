-- A function outside the members has a slot where a member imports a cell of it, and the host function that defines a name is numbered.
use Rattle.std.proofs.Common.{◌≡◌, ℕ, zero, suc, ◌+◌, Bool, true, false, ◌||◌, List, [], ◌∷◌, ◌++◌, slice_get, nat_eq, Option, Some, None, cond, refl, sym, ap, ◌∙◌, subst, arith, if◌then◌else◌}
use Rattle.std.specs.Prelude.{bytes_eq}
use Rattle.std.specs.List.{list_any, filter, filter_map, cons_option, flat_map}
use Rattle.std.proofs.lemmas.Bool.{and_parts, or_left, or_right, eq-eqb, eqb-true}
use Rattle.std.proofs.lemmas.List.Folds.{list_any-append}
use Rattle.std.proofs.lemmas.Slice.Eq.{bytes_eq-Decides}
use Rattle.wasm_form.specs.declared.module.Import.{Import}
use Rattle.wasm_form.specs.declared.runtime.LoaderCall.{LoaderCall}
use Rattle.wasm_form.specs.declared.runtime.LoaderCall.TheVariants.{Dlopen, Dlsym, Dlclose, Dlerror}
use Rattle.wasm_form.specs.declared.runtime.Ref.{Ref}
use Rattle.wasm_form.specs.declared.runtime.Ref.TheVariants.{Loader, Host}
use Rattle.spec_loading.specs.spec_runtime.Names.{HostName}
use Rattle.spec_loading.specs.spec_linking.Sets.{Member}
use Rattle.spec_loading.specs.spec_linking.LinkedSets.{LinkedSet, host_of_import, hosts_from, hosts_of, first_names, is_same_name, is_named, host_entry}
use Rattle.spec_loading.specs.spec_linking.Slots.{linked_plan, same_call, same_ref, fresh_functions, outside_of_import, outside_from, outside_refs, outside_slots, all_loaders, is_host_ref, first_refs, fresh_slots, slot_of}
use Rattle.spec_loading.proofs.of_spec_linking.DefinedSlots.{place_found}

-- ---- lists

-- one that passes a test is among those that are kept, where it is kept
any_kept : {A : Type 0} (test keep : A → Bool) (xs : List A) (i : ℕ) (x : A) → slice_get xs i ≡ Some x → test x ≡ true → keep x ≡ true
    → list_any test (filter keep xs) ≡ true
any_kept test keep [] i x at passes kept = absurd cc
any_kept {A} test keep (y ∷ ys) zero x at passes kept =
    let same : x ≡ y = cc in
    let is : keep y ≡ true = subst (λ (z : A). keep z ≡ true) same kept in
    let so : test y ≡ true = subst (λ (z : A). test z ≡ true) same passes in
    subst (λ b. list_any test (cond b (y ∷ filter keep ys) (filter keep ys)) ≡ true) (sym is) (or_left (test y) (list_any test (filter keep ys)) so)
any_kept test keep (y ∷ ys) (suc i) x at passes kept = go (keep y) (any_kept test keep ys i x at passes kept)
  where
    go : (b : Bool) → list_any test (filter keep ys) ≡ true → list_any test (cond b (y ∷ filter keep ys) (filter keep ys)) ≡ true
    go true more = or_right (test y) (list_any test (filter keep ys)) more
    go false more = more

-- the same of those that some elements give
any_mapped : {A B : Type 0} (test : B → Bool) (give : A → Option B) (xs : List A) (i : ℕ) (x : A) (y : B) → slice_get xs i ≡ Some x
    → give x ≡ Some y → test y ≡ true → list_any test (filter_map give xs) ≡ true
any_mapped test give [] i x y at gives passes = absurd cc
any_mapped {A} {B} test give (z ∷ zs) zero x y at gives passes =
    let same : x ≡ z = cc in
    let is : give z ≡ Some y = subst (λ (w : A). give w ≡ Some y) same gives in
    subst (λ (o : Option B). list_any test (cons_option o (filter_map give zs)) ≡ true) (sym is) (or_left (test y) (list_any test (filter_map give zs)) passes)
any_mapped {A} {B} test give (z ∷ zs) (suc i) x y at gives passes = go (give z) (any_mapped test give zs i x y at gives passes)
  where
    go : (o : Option B) → list_any test (filter_map give zs) ≡ true → list_any test (cons_option o (filter_map give zs)) ≡ true
    go None more = more
    go (Some w) more = or_right (test w) (list_any test (filter_map give zs)) more

any_flat : {A B : Type 0} (test : B → Bool) (give : A → List B) (xs : List A) (i : ℕ) (x : A) → slice_get xs i ≡ Some x
    → list_any test (give x) ≡ true → list_any test (flat_map give xs) ≡ true
any_flat test give [] i x at passes = absurd cc
any_flat {A} test give (z ∷ zs) zero x at passes =
    let same : x ≡ z = cc in
    list_any-append test (give z) (flat_map give zs)
    ∙ or_left (list_any test (give z)) (list_any test (flat_map give zs)) (subst (λ (w : A). list_any test (give w) ≡ true) same passes)
any_flat test give (z ∷ zs) (suc i) x at passes =
    list_any-append test (give z) (flat_map give zs)
    ∙ or_right (list_any test (give z)) (list_any test (flat_map give zs)) (any_flat test give zs i x at passes)

-- what some known element passes, another passes that is the same
known_passes : {A : Type 0} (test same : A → Bool) (known : List A) → ((y : A) → same y ≡ true → test y ≡ true) → list_any same known ≡ true
    → list_any test known ≡ true
known_passes test same [] holds e = absurd cc
known_passes test same (x ∷ xs) holds e = go (same x) refl e (known_passes test same xs holds)
  where
    go : (b : Bool) → same x ≡ b → (b || list_any same xs) ≡ true → (list_any same xs ≡ true → list_any test xs ≡ true)
        → list_any test (x ∷ xs) ≡ true
    go true q h more = or_left (test x) (list_any test xs) (holds x q)
    go false q h more = or_right (test x) (list_any test xs) (more h)

regroup : (a b r : Bool) → ((a || (b || false)) || r) ≡ true → (a || (b || r)) ≡ true
regroup true b r e = refl
regroup false true r e = refl
regroup false false r e = e

-- ---- each once

-- a test that an element passes, and with it all that are the same
abbrev IsOfSame : {A : Type 0} → (A → Bool) → (A → A → Bool) → Type 0
IsOfSame {A} test same = (x y : A) → test x ≡ true → same x y ≡ true → test y ≡ true

-- some elements, each once, as it comes first after those that are known
abbrev IsEachOnce : {A : Type 0} → (List A → List A → List A) → (A → A → Bool) → Type 0
IsEachOnce {A} firsts same = (known : List A) (x : A) (xs : List A)
    → firsts known (x ∷ xs) ≡ (if list_any (same x) known then firsts known xs else x ∷ firsts (known ++ x ∷ []) xs)

module _ {A : Type 0} (firsts : List A → List A → List A) (same : A → A → Bool) (once : IsEachOnce firsts same) (test : A → Bool)
    (of_same : IsOfSame test same) where
  -- what passes is known, or comes
  abbrev Passes : List A → List A → Type 0
  Passes known later = (list_any test known || list_any test later) ≡ true

  abbrev PassesNext : List A → A → List A → Bool → Type 0
  PassesNext known x xs b = Passes known (if b then firsts known xs else x ∷ firsts (known ++ x ∷ []) xs)

  firsts_pass : (known xs : List A) → list_any test xs ≡ true → Passes known (firsts known xs)
  firsts_pass known [] e = absurd cc
  firsts_pass known (x ∷ xs) e = subst (Passes known) (sym (once known x xs)) (here (test x) refl e (λ h more. firsts_pass more xs h))
    where
      later : (b : Bool) → ((more : List A) → Passes more (firsts more xs)) → PassesNext known x xs b
      later true rest = rest known
      later false rest =
          let after = firsts (known ++ x ∷ []) xs in
          regroup (list_any test known) (test x) (list_any test after)
          (ap (λ b. b || list_any test after) (sym (list_any-append test known (x ∷ []))) ∙ rest (known ++ x ∷ []))

      first : (b : Bool) → list_any (same x) known ≡ b → test x ≡ true → PassesNext known x xs b
      first true q p = or_left (list_any test known) (list_any test (firsts known xs)) (known_passes test (same x) known (λ y. of_same x y p) q)
      first false q p =
          let after = firsts (known ++ x ∷ []) xs in
          or_right (list_any test known) (test x || list_any test after) (or_left (test x) (list_any test after) p)

      here : (b : Bool) → test x ≡ b → (b || list_any test xs) ≡ true → (list_any test xs ≡ true → (more : List A) → Passes more (firsts more xs))
          → PassesNext known x xs (list_any (same x) known)
      here true p h rest = first (list_any (same x) known) refl p
      here false p h rest = later (list_any (same x) known) (rest h)

-- ---- tests

call_itself : (call : LoaderCall) → same_call call call ≡ true
call_itself Dlopen = refl
call_itself Dlsym = refl
call_itself Dlclose = refl
call_itself Dlerror = refl

call_place : (call : LoaderCall) → (i : ℕ) × (slice_get all_loaders i ≡ Some (Loader call))
call_place Dlopen = (0, refl)
call_place Dlsym = (1, refl)
call_place Dlclose = (2, refl)
call_place Dlerror = (3, refl)

host_of_same : (n : ℕ) → IsOfSame (same_ref (Host n)) same_ref
host_of_same n (Host k) (Host j) p q =
    let first : n ≡ k = eqb-true n k p in
    let second : k ≡ j = eqb-true k j q in
    eq-eqb n j (first ∙ second)
host_of_same n (Host k) _ p q = absurd cc
host_of_same n _ y p q = absurd cc

name_of_same : (from name : List ℕ) → IsOfSame (is_named from name) is_same_name
name_of_same from name x y p q =
    let of_x = and_parts (bytes_eq x.module_name from) (bytes_eq x.name name) p in
    let both = and_parts (bytes_eq x.module_name y.module_name) (bytes_eq x.name y.name) q in
    let from_x : x.module_name ≡ from = (bytes_eq-Decides x.module_name from).0 of_x.0 in
    let name_x : x.name ≡ name = (bytes_eq-Decides x.name name).0 of_x.1 in
    let from_y : x.module_name ≡ y.module_name = (bytes_eq-Decides x.module_name y.module_name).0 both.0 in
    let name_y : x.name ≡ y.name = (bytes_eq-Decides x.name y.name).0 both.1 in
    rw ((bytes_eq-Decides y.module_name from).1 (sym from_y ∙ from_x)) ((bytes_eq-Decides y.name name).1 (sym name_y ∙ name_x))

-- ---- of a linked set

module _ (L : LinkedSet) where
  refs_there : (test : Ref → Bool) (n : ℕ) (xs : List Member) (k j : ℕ) (x : Member) (i : Import) (r : Ref) → slice_get xs k ≡ Some x
      → slice_get x.wasm.imports j ≡ Some i
      → outside_of_import L (n + k) i ≡ Some r → test r ≡ true → list_any test (outside_from L n xs) ≡ true
  refs_there test n [] k j x i r at imported gives passes = absurd cc
  refs_there test n (y ∷ ys) zero j x i r at imported gives passes =
      let same : x ≡ y = cc in
      let here : n + 0 ≡ n = omega arith in
      let of_y : slice_get y.wasm.imports j ≡ Some i = subst (λ (z : Member). slice_get z.wasm.imports j ≡ Some i) same imported in
      list_any-append test (filter_map (outside_of_import L n) y.wasm.imports) (outside_from L (n + 1) ys)
      ∙ or_left (list_any test (filter_map (outside_of_import L n) y.wasm.imports)) (list_any test (outside_from L (n + 1) ys))
      (any_mapped test (outside_of_import L n) y.wasm.imports j i r of_y (subst (λ (m : ℕ). outside_of_import L m i ≡ Some r) here gives) passes)
  refs_there test n (y ∷ ys) (suc k) j x i r at imported gives passes =
      let here : n + suc k ≡ (n + 1) + k = omega arith in
      list_any-append test (filter_map (outside_of_import L n) y.wasm.imports) (outside_from L (n + 1) ys)
      ∙ or_right (list_any test (filter_map (outside_of_import L n) y.wasm.imports)) (list_any test (outside_from L (n + 1) ys))
      (refs_there test (n + 1) ys k j x i r at imported (subst (λ (m : ℕ). outside_of_import L m i ≡ Some r) here gives) passes)

  hosts_there : (test : HostName → Bool) (n : ℕ) (xs : List Member) (k j : ℕ) (x : Member) (i : Import) → slice_get xs k ≡ Some x
      → slice_get x.wasm.imports j ≡ Some i
      → list_any test (host_of_import L (n + k) x.wasm i) ≡ true → list_any test (hosts_from L n xs) ≡ true
  hosts_there test n [] k j x i at imported passes = absurd cc
  hosts_there test n (y ∷ ys) zero j x i at imported passes =
      let same : x ≡ y = cc in
      let here : n + 0 ≡ n = omega arith in
      let of_y : slice_get y.wasm.imports j ≡ Some i = subst (λ (z : Member). slice_get z.wasm.imports j ≡ Some i) same imported in
      let so : list_any test (host_of_import L n y.wasm i) ≡ true =
      subst (λ (m : ℕ). list_any test (host_of_import L m y.wasm i) ≡ true) here (subst (λ (z : Member). list_any test (host_of_import L (n + 0) z.wasm i) ≡ true) same passes) in
      list_any-append test (flat_map (host_of_import L n y.wasm) y.wasm.imports) (hosts_from L (n + 1) ys)
      ∙ or_left (list_any test (flat_map (host_of_import L n y.wasm) y.wasm.imports)) (list_any test (hosts_from L (n + 1) ys))
      (any_flat test (host_of_import L n y.wasm) y.wasm.imports j i of_y so)
  hosts_there test n (y ∷ ys) (suc k) j x i at imported passes =
      let here : n + suc k ≡ (n + 1) + k = omega arith in
      list_any-append test (flat_map (host_of_import L n y.wasm) y.wasm.imports) (hosts_from L (n + 1) ys)
      ∙ or_right (list_any test (flat_map (host_of_import L n y.wasm) y.wasm.imports)) (list_any test (hosts_from L (n + 1) ys))
      (hosts_there test (n + 1) ys k j x i at imported (subst (λ (m : ℕ). list_any test (host_of_import L m x.wasm i) ≡ true) here passes))

  module _ (m j : ℕ) (x : Member) (i : Import) (at : slice_get L.set.members m ≡ Some x) (imported : slice_get x.wasm.imports j ≡ Some i) where
    same_place : 0 + m ≡ m
    same_place = omega arith

    -- the import stands for a function outside the members
    is_outside : (r : Ref) → outside_of_import L m i ≡ Some r → same_ref r r ≡ true → list_any (same_ref r) (outside_refs L) ≡ true
    is_outside r gives itself =
        refs_there (same_ref r) 0 L.set.members m j x i r at imported (subst (λ (k : ℕ). outside_of_import L k i ≡ Some r) (sym same_place) gives) itself

    with_slot : (r : Ref) → list_any (same_ref r) (outside_slots L) ≡ true → list_any (same_ref r) (fresh_slots L) ≡ true
    with_slot r there =
        list_any-append (same_ref r) (fresh_functions L) (outside_slots L)
        ∙ or_right (list_any (same_ref r) (fresh_functions L)) (list_any (same_ref r) (outside_slots L)) there

    pub loader_slot_there : (call : LoaderCall) → outside_of_import L m i ≡ Some (Loader call) → (k : ℕ) × (slot_of L (Loader call) ≡ Some k)
    loader_slot_there call gives =
        let is = is_outside (Loader call) gives (call_itself call) in
        let place = call_place call in
        let loaders = filter (λ r. list_any (same_ref r) (outside_refs L)) all_loaders in
        let hosts = first_refs [] (filter is_host_ref (outside_refs L)) in
        let kept : list_any (same_ref (Loader call)) loaders ≡ true =
        any_kept (same_ref (Loader call)) (λ r. list_any (same_ref r) (outside_refs L)) all_loaders place.0 (Loader call) place.1 (call_itself call) is in
        let there : list_any (same_ref (Loader call)) (outside_slots L) ≡ true =
        list_any-append (same_ref (Loader call)) loaders hosts
        ∙ or_left (list_any (same_ref (Loader call)) loaders) (list_any (same_ref (Loader call)) hosts) kept in
        let slot = place_found (same_ref (Loader call)) (linked_plan L).table_end (fresh_slots L) (with_slot (Loader call) there) in
        (slot.0, slot.1)

    -- hosts among the functions outside the members
    hosts_kept : (n : ℕ) (rs : List Ref) → list_any (same_ref (Host n)) rs ≡ true → list_any (same_ref (Host n)) (filter is_host_ref rs) ≡ true
    hosts_kept n [] e = absurd cc
    hosts_kept n (Host k ∷ rs) e = go (nat_eq n k) refl e (hosts_kept n rs)
      where
        go : (b : Bool) → nat_eq n k ≡ b → (b || list_any (same_ref (Host n)) rs) ≡ true
            → (list_any (same_ref (Host n)) rs ≡ true → list_any (same_ref (Host n)) (filter is_host_ref rs) ≡ true)
            → (nat_eq n k || list_any (same_ref (Host n)) (filter is_host_ref rs)) ≡ true
        go true q h more = or_left (nat_eq n k) (list_any (same_ref (Host n)) (filter is_host_ref rs)) q
        go false q h more = or_right (nat_eq n k) (list_any (same_ref (Host n)) (filter is_host_ref rs)) (more h)
    hosts_kept n (_ ∷ rs) e = hosts_kept n rs e

    pub host_slot_there : (n : ℕ) → outside_of_import L m i ≡ Some (Host n) → (k : ℕ) × (slot_of L (Host n) ≡ Some k)
    host_slot_there n gives =
        let is = is_outside (Host n) gives (eq-eqb n n refl) in
        let loaders = filter (λ r. list_any (same_ref r) (outside_refs L)) all_loaders in
        let hosts = first_refs [] (filter is_host_ref (outside_refs L)) in
        let kept : list_any (same_ref (Host n)) hosts ≡ true =
        firsts_pass first_refs same_ref (λ known r rs. refl) (same_ref (Host n)) (host_of_same n) [] (filter is_host_ref (outside_refs L))
        (hosts_kept n (outside_refs L) is) in
        let there : list_any (same_ref (Host n)) (outside_slots L) ≡ true =
        list_any-append (same_ref (Host n)) loaders hosts
        ∙ or_right (list_any (same_ref (Host n)) loaders) (list_any (same_ref (Host n)) hosts) kept in
        let slot = place_found (same_ref (Host n)) (linked_plan L).table_end (fresh_slots L) (with_slot (Host n) there) in
        (slot.0, slot.1)

    -- the import stands for a host function
    pub host_there : (from name : List ℕ) → list_any (is_named from name) (host_of_import L m x.wasm i) ≡ true
        → (n : ℕ) × (host_entry L from name ≡ Some n)
    host_there from name passes =
        let all : list_any (is_named from name) (hosts_from L 0 L.set.members) ≡ true =
        hosts_there (is_named from name) 0 L.set.members m j x i at imported (subst (λ (k : ℕ). list_any (is_named from name) (host_of_import L k x.wasm i) ≡ true) (sym same_place) passes) in
        let entry =
        place_found (is_named from name) 0 (hosts_of L)
        (firsts_pass first_names is_same_name (λ known h hs. refl) (is_named from name) (name_of_same from name) [] (hosts_from L 0 L.set.members) all) in
        (entry.0, entry.1)
