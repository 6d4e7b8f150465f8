-- Each cell of a member of a linked set has a number: the address of data, or the slot of a function.
use Rattle.std.proofs.Common.{◌≡◌, ℕ, zero, suc, ◌+◌, ◌%◌, ◌^◌, Bool, true, false, ◌||◌, List, [], ◌∷◌, ◌++◌, slice_get, Option, Some, None, cond, refl, sym, ap, ◌∙◌, subst, arith, if◌then◌else◌}
use Rattle.std.specs.Prelude.{bytes_eq, codes, is_some, ◌&&◌}
use Rattle.std.specs.List.{All, list_any, filter, filter_map, cons_option, flat_map}
use Rattle.std.proofs.lemmas.Bool.{or_left, or_right, and_parts, eq-eqb}
use Rattle.std.proofs.lemmas.List.Elements.{All-nil, All-cons, All-head, All-tail, All-append}
use Rattle.std.proofs.lemmas.List.Folds.{list_any-append}
use Rattle.std.proofs.lemmas.Option.{slice_get_within}
use Rattle.std.proofs.lemmas.Slice.Eq.{bytes_eq-Decides}
use Rattle.spec_linking.specs.wasm_form.declared.types.FuncType.{FuncType}
use Rattle.spec_linking.specs.wasm_form.declared.module.Import.{Import}
use Rattle.spec_linking.specs.wasm_form.declared.runtime.LoaderCall.{LoaderCall}
use Rattle.spec_linking.specs.wasm_form.declared.runtime.LoaderCall.TheVariants.{Dlopen, Dlsym, Dlclose, Dlerror}
use Rattle.spec_linking.specs.wasm_form.declared.runtime.Ref.{Ref}
use Rattle.spec_linking.specs.wasm_form.declared.runtime.Ref.TheVariants.{Own, Loader, Host}
use Rattle.spec_linking.specs.spec_binary.Options.{◌>>=◌}
use Rattle.spec_linking.specs.spec_runtime.Names.{HostName, host_typed}
use Rattle.spec_linking.specs.declared.fault.Kind.{Kind}
use Rattle.spec_linking.specs.declared.fault.Kind.TheVariants as kind
use Rattle.spec_linking.specs.Sets.{Member}
use Rattle.spec_linking.specs.Orders.{scope}
use Rattle.spec_linking.specs.Definitions.{Symbol, FunctionSymbol, DataSymbol, symbol_of, Definition, LoaderFunction, HeapBase, HeapEnd, MemberFunction, MemberData, HostFunction, WeakSymbol, Undefined, or_defined, loader_names, named_in, defined_by, member_definition, searched, found, where_so, env_name}
use Rattle.spec_linking.specs.Imports.{ImportUse, DataCell, SlotCell, use_of}
use Rattle.spec_linking.specs.LinkedSets.{LinkedSet, is_host_for, weak_for, definition, host_named, host_defined, host_as, host_of_import, hosts_from, is_same_name, first_names, hosts_of, is_named, host_entry, host_ref}
use Rattle.spec_linking.specs.Slots.{linked_plan, CellName, cell_as, cell_of_import, first_cells, cells_of, same_cell, same_call, same_ref, outside_ref, outside_as, outside_of_import, outside_from, outside_refs, all_loaders, is_host_ref, first_refs, outside_slots, fresh_functions, fresh_slots, fresh_slot, slot_of, address_of, cell_number}
use Rattle.spec_linking.specs.Links.{unless, data_cell_fault, slot_cell_fault, fault_as, Links}
use Rattle.spec_linking.proofs.LinkedFacts.{or_none, linked_member}
use Rattle.spec_linking.proofs.DefinedSlots.{function_known, place_found, slot_there, memory_base_there}
use Rattle.spec_loading.proofs.LinkedCells.{regroup}
use Rattle.spec_loading.proofs.LinkedSlots.{refs_equal}

-- ---- definitions

-- what holds of each of two definitions holds of the one that is found first
either_so : (P : Definition → Type 0) (a b : Definition) → P a → P b → P (or_defined a b)
either_so P (LoaderFunction call) b h k = h
either_so P HeapBase b h k = h
either_so P HeapEnd b h k = h
either_so P (MemberFunction m f) b h k = h
either_so P (MemberData m place) b h k = h
either_so P HostFunction b h k = h
either_so P WeakSymbol b h k = h
either_so P Undefined b h k = k

chosen_so : (P : Definition → Type 0) (choice : Bool) (a b : Definition) → P a → P b → P (if choice then a else b)
chosen_so P true a b h k = h
chosen_so P false a b h k = k

where_holds : (P : Definition → Type 0) (b : Bool) (d : Definition) → (b ≡ true → P d) → P Undefined → P (where_so b d)
where_holds P true d h k = h refl
where_holds P false d h k = k

-- What a definition of a name for an import of this kind tells: a function that a member defines has a slot, data have an address, and a
-- function of the host is declared.
abbrev Tells : LinkedSet → Kind → List ℕ → Definition → Type 0
Tells L of_kind name (MemberFunction k g) = (n : ℕ) × (slot_of L (Own k g) ≡ Some n)
Tells L of_kind name (MemberData k place) = (n : ℕ) × (address_of L k place ≡ Some n)
Tells L of_kind name HostFunction = is_host_for L.names of_kind name ≡ true
Tells L of_kind name _ = Unit {0}

module _ (L : LinkedSet) (of_kind : Kind) (name : List ℕ) where
  abbrev P : Definition → Type 0
  P = Tells L of_kind name

  loader_tells : P (named_in loader_names name)
  loader_tells =
      chosen_so P (bytes_eq name (codes "dlopen")) _ _ tt (
      chosen_so P (bytes_eq name (codes "dlsym")) _ _ tt (
      chosen_so P (bytes_eq name (codes "dlclose")) _ _ tt (
      chosen_so P (bytes_eq name (codes "dlerror")) _ _ tt (
      chosen_so P (bytes_eq name (codes "__heap_base")) _ _ tt (
      chosen_so P (bytes_eq name (codes "__heap_end")) _ _ tt tt)))))

  symbol_tells : (m : ℕ) (member : Member) → slice_get L.set.members m ≡ Some member → (o : Option Symbol) → symbol_of member.wasm name ≡ o → P (defined_by m o)
  symbol_tells m member at None e = tt
  symbol_tells m member at (Some (FunctionSymbol f)) e =
      slot_there L m f member.wasm (slice_get_within L.set.members m member at) (ap (λ (o : Option Member). o >>= λ x. Some x.wasm) at) (function_known member.wasm name f e)
  symbol_tells m member at (Some (DataSymbol place)) e =
      let base = memory_base_there L m (slice_get_within L.set.members m member at) in
      ((base.0 + place) % 2 ^ 32, ap (λ (o : Option ℕ). o >>= λ b. Some ((b + place) % 2 ^ 32)) base.1)

  member_tells : (m : ℕ) → P (member_definition L.set m name)
  member_tells m = go (slice_get L.set.members m) refl
    where
      go : (o : Option Member) → slice_get L.set.members m ≡ o → P (defined_by m (o >>= λ member. symbol_of member.wasm name))
      go None e = tt
      go (Some member) e = symbol_tells m member e (symbol_of member.wasm name) refl

  searched_tells : (ms : List ℕ) → P (searched L.set ms name)
  searched_tells [] = tt
  searched_tells (m ∷ ms) = either_so P (member_definition L.set m name) (searched L.set ms name) (member_tells m) (searched_tells ms)

  definition_tells : (m : ℕ) → P (definition L m of_kind name)
  definition_tells m =
      let declared = where_so (is_host_for L.names of_kind name) HostFunction in
      let weak = where_so (weak_for L m name) WeakSymbol in
      either_so P (found L.set m name) (or_defined declared weak)
      (either_so P (named_in loader_names name) (searched L.set (scope L.set m) name) loader_tells (searched_tells (scope L.set m)))
      (either_so P declared weak
      (where_holds P (is_host_for L.names of_kind name) HostFunction (λ e. e) tt)
      (where_holds P (weak_for L m name) WeakSymbol (λ e. tt) tt))

-- ---- the functions outside the members that cells hold

-- what a test finds among some is found among what each gives
any_given : {A B : Type 0} (f : A → Option B) (test : B → Bool) (xs : List A) (i : ℕ) (x : A) (y : B) → slice_get xs i ≡ Some x → f x ≡ Some y → test y ≡ true
    → list_any test (filter_map f xs) ≡ true
any_given f test [] i x y e q passes = absurd cc
any_given {A} {B} f test (z ∷ xs) zero x y e q passes =
    let same : z ≡ x = cc in
    let gives : f z ≡ Some y = ap f same ∙ q in
    subst (λ (o : Option B). list_any test (cons_option o (filter_map f xs)) ≡ true) (sym gives) (or_left (test y) (list_any test (filter_map f xs)) passes)
any_given {A} {B} f test (z ∷ xs) (suc i) x y e q passes = go (f z) (any_given f test xs i x y e q passes)
  where
    go : (o : Option B) → list_any test (filter_map f xs) ≡ true → list_any test (cons_option o (filter_map f xs)) ≡ true
    go None h = h
    go (Some w) h = or_right (test w) (list_any test (filter_map f xs)) h

-- what a test finds is found among those that are kept, where they are
any_kept : {A : Type 0} (test keep : A → Bool) → ((x : A) → test x ≡ true → keep x ≡ true) → (xs : List A) → list_any test xs ≡ true → list_any test (filter keep xs) ≡ true
any_kept test keep kept [] e = absurd cc
any_kept {A} test keep kept (x ∷ xs) e = go (test x) refl e (λ h. any_kept test keep kept xs h)
  where
    later : (b : Bool) → list_any test (filter keep xs) ≡ true → list_any test (cond b (x ∷ filter keep xs) (filter keep xs)) ≡ true
    later true h = or_right (test x) (list_any test (filter keep xs)) h
    later false h = h

    go : (b : Bool) → test x ≡ b → (b || list_any test xs) ≡ true → (list_any test xs ≡ true → list_any test (filter keep xs) ≡ true)
        → list_any test (cond (keep x) (x ∷ filter keep xs) (filter keep xs)) ≡ true
    go true q h more = subst (λ b. list_any test (cond b (x ∷ filter keep xs) (filter keep xs)) ≡ true) (sym (kept x q)) (or_left (test x) (list_any test (filter keep xs)) q)
    go false q h more = later (keep x) (more h)

-- one more at the end of those that are known
any_pushed : {A : Type 0} (test : A → Bool) (known : List A) (x : A) (r : Bool) → (list_any test (known ++ x ∷ []) || r) ≡ true → (list_any test known || (test x || r)) ≡ true
any_pushed test known x r e = regroup (list_any test known) (test x) r (ap (λ b. b || r) (sym (list_any-append test known (x ∷ []))) ∙ e)

either_way : (a b c : Bool) → (a ≡ true → c ≡ true) → (b ≡ true → c ≡ true) → (a || b) ≡ true → c ≡ true
either_way true b c h k e = h refl
either_way false b c h k e = k e

-- a reference that is among some is known, or comes first once
first_ref : (r : Ref) (known rs : List Ref) → list_any (same_ref r) rs ≡ true → (list_any (same_ref r) known || list_any (same_ref r) (first_refs known rs)) ≡ true
first_ref r known [] e = absurd cc
first_ref r known (x ∷ rs) e = go (list_any (same_ref x) known) refl (first_ref r known rs) (first_ref r (known ++ x ∷ []) rs)
  where
    go : (b : Bool) → list_any (same_ref x) known ≡ b
        → (list_any (same_ref r) rs ≡ true → (list_any (same_ref r) known || list_any (same_ref r) (first_refs known rs)) ≡ true)
        → (list_any (same_ref r) rs ≡ true → (list_any (same_ref r) (known ++ x ∷ []) || list_any (same_ref r) (first_refs (known ++ x ∷ []) rs)) ≡ true)
        → (list_any (same_ref r) known || list_any (same_ref r) (if b then first_refs known rs else x ∷ first_refs (known ++ x ∷ []) rs)) ≡ true
    go true q kept added =
        either_way (same_ref r x) (list_any (same_ref r) rs) _
        (λ h. or_left (list_any (same_ref r) known) (list_any (same_ref r) (first_refs known rs)) (subst (λ y. list_any (same_ref y) known ≡ true) (sym (refs_equal r x h)) q))
        kept e
    go false q kept added =
        either_way (same_ref r x) (list_any (same_ref r) rs) _
        (λ h. or_right (list_any (same_ref r) known) _ (or_left (same_ref r x) (list_any (same_ref r) (first_refs (known ++ x ∷ []) rs)) h))
        (λ h. any_pushed (same_ref r) known x (list_any (same_ref r) (first_refs (known ++ x ∷ []) rs)) (added h)) e

-- the same for a name of a host function
alike : (from name : List ℕ) (h x : HostName) → is_same_name h x ≡ true → is_named from name h ≡ true → is_named from name x ≡ true
alike from name h x same is =
    let both = and_parts (bytes_eq h.module_name x.module_name) (bytes_eq h.name x.name) same in
    let modules : h.module_name ≡ x.module_name = (bytes_eq-Decides h.module_name x.module_name).0 both.0 in
    let names : h.name ≡ x.name = (bytes_eq-Decides h.name x.name).0 both.1 in
    subst (λ (n : List ℕ). (bytes_eq n from && bytes_eq x.name name) ≡ true) modules (subst (λ (n : List ℕ). (bytes_eq h.module_name from && bytes_eq n name) ≡ true) names is)

known_alike : (from name : List ℕ) (h : HostName) (known : List HostName) → list_any (is_same_name h) known ≡ true → is_named from name h ≡ true
    → list_any (is_named from name) known ≡ true
known_alike from name h [] e is = absurd cc
known_alike from name h (x ∷ xs) e is =
    either_way (is_same_name h x) (list_any (is_same_name h) xs) _
    (λ s. or_left (is_named from name x) (list_any (is_named from name) xs) (alike from name h x s is))
    (λ s. or_right (is_named from name x) (list_any (is_named from name) xs) (known_alike from name h xs s is)) e

first_name : (from name : List ℕ) (known hs : List HostName) → list_any (is_named from name) hs ≡ true
    → (list_any (is_named from name) known || list_any (is_named from name) (first_names known hs)) ≡ true
first_name from name known [] e = absurd cc
first_name from name known (h ∷ hs) e = go (list_any (is_same_name h) known) refl (first_name from name known hs) (first_name from name (known ++ h ∷ []) hs)
  where
    go : (b : Bool) → list_any (is_same_name h) known ≡ b
        → (list_any (is_named from name) hs ≡ true → (list_any (is_named from name) known || list_any (is_named from name) (first_names known hs)) ≡ true)
        → (list_any (is_named from name) hs ≡ true → (list_any (is_named from name) (known ++ h ∷ []) || list_any (is_named from name) (first_names (known ++ h ∷ []) hs)) ≡ true)
        → (list_any (is_named from name) known || list_any (is_named from name) (if b then first_names known hs else h ∷ first_names (known ++ h ∷ []) hs)) ≡ true
    go true q kept added =
        either_way (is_named from name h) (list_any (is_named from name) hs) _
        (λ s. or_left (list_any (is_named from name) known) (list_any (is_named from name) (first_names known hs)) (known_alike from name h known q s))
        kept e
    go false q kept added =
        either_way (is_named from name h) (list_any (is_named from name) hs) _
        (λ s. or_right (list_any (is_named from name) known) _ (or_left (is_named from name h) (list_any (is_named from name) (first_names (known ++ h ∷ []) hs)) s))
        (λ s. any_pushed (is_named from name) known h (list_any (is_named from name) (first_names (known ++ h ∷ []) hs)) (added s)) e

any_flat : {A B : Type 0} (f : A → List B) (test : B → Bool) (xs : List A) (i : ℕ) (x : A) → slice_get xs i ≡ Some x → list_any test (f x) ≡ true → list_any test (flat_map f xs) ≡ true
any_flat f test [] i x e h = absurd cc
any_flat f test (y ∷ xs) zero x e h =
    let same : y ≡ x = cc in
    list_any-append test (f y) (flat_map f xs) ∙ or_left (list_any test (f y)) (list_any test (flat_map f xs)) (ap (λ z. list_any test (f z)) same ∙ h)
any_flat f test (y ∷ xs) (suc i) x e h = list_any-append test (f y) (flat_map f xs) ∙ or_right (list_any test (f y)) (list_any test (flat_map f xs)) (any_flat f test xs i x e h)

calls_same : (call : LoaderCall) → same_call call call ≡ true
calls_same Dlopen = refl
calls_same Dlsym = refl
calls_same Dlclose = refl
calls_same Dlerror = refl

a_loader : (call : LoaderCall) → list_any (same_ref (Loader call)) all_loaders ≡ true
a_loader Dlopen = refl
a_loader Dlsym = refl
a_loader Dlclose = refl
a_loader Dlerror = refl

module _ (L : LinkedSet) where
  -- a reference that an import of a member has is among those of all members
  outside_there : (test : Ref → Bool) (r : Ref) → test r ≡ true → (n : ℕ) (xs : List Member) (j : ℕ) (x : Member) → slice_get xs j ≡ Some x → (p : ℕ) (i : Import)
      → slice_get x.wasm.imports p ≡ Some i → outside_of_import L (n + j) i ≡ Some r → list_any test (outside_from L n xs) ≡ true
  outside_there test r passes n [] j x e p i at is = absurd cc
  outside_there test r passes n (y ∷ ys) zero x e p i at is =
      let same : y ≡ x = cc in
      let here : n + 0 ≡ n = omega arith in
      let there : slice_get y.wasm.imports p ≡ Some i = ap (λ (z : Member). slice_get z.wasm.imports p) same ∙ at in
      let given : outside_of_import L n i ≡ Some r = ap (λ k. outside_of_import L k i) (sym here) ∙ is in
      list_any-append test (filter_map (outside_of_import L n) y.wasm.imports) (outside_from L (n + 1) ys)
      ∙ or_left (list_any test (filter_map (outside_of_import L n) y.wasm.imports)) (list_any test (outside_from L (n + 1) ys))
      (any_given (outside_of_import L n) test y.wasm.imports p i r there given passes)
  outside_there test r passes n (y ∷ ys) (suc j) x e p i at is =
      let here : n + suc j ≡ n + 1 + j = omega arith in
      list_any-append test (filter_map (outside_of_import L n) y.wasm.imports) (outside_from L (n + 1) ys)
      ∙ or_right (list_any test (filter_map (outside_of_import L n) y.wasm.imports)) (list_any test (outside_from L (n + 1) ys))
      (outside_there test r passes (n + 1) ys j x e p i at (ap (λ k. outside_of_import L k i) (sym here) ∙ is))

  -- the functions of the host that imports name are those of the set
  hosts_there : (test : HostName → Bool) (n : ℕ) (xs : List Member) (j : ℕ) (x : Member) → slice_get xs j ≡ Some x → (p : ℕ) (i : Import)
      → slice_get x.wasm.imports p ≡ Some i → list_any test (host_of_import L (n + j) x.wasm i) ≡ true → list_any test (hosts_from L n xs) ≡ true
  hosts_there test n [] j x e p i at is = absurd cc
  hosts_there test n (y ∷ ys) zero x e p i at is =
      let same : y ≡ x = cc in
      let here : n + 0 ≡ n = omega arith in
      let there : slice_get y.wasm.imports p ≡ Some i = ap (λ (z : Member). slice_get z.wasm.imports p) same ∙ at in
      let given : list_any test (host_of_import L n y.wasm i) ≡ true =
      ap (λ (z : Member). list_any test (host_of_import L n z.wasm i)) same ∙ ap (λ k. list_any test (host_of_import L k x.wasm i)) (sym here) ∙ is in
      list_any-append test (flat_map (host_of_import L n y.wasm) y.wasm.imports) (hosts_from L (n + 1) ys)
      ∙ or_left (list_any test (flat_map (host_of_import L n y.wasm) y.wasm.imports)) (list_any test (hosts_from L (n + 1) ys))
      (any_flat (host_of_import L n y.wasm) test y.wasm.imports p i there given)
  hosts_there test n (y ∷ ys) (suc j) x e p i at is =
      let here : n + suc j ≡ n + 1 + j = omega arith in
      list_any-append test (flat_map (host_of_import L n y.wasm) y.wasm.imports) (hosts_from L (n + 1) ys)
      ∙ or_right (list_any test (flat_map (host_of_import L n y.wasm) y.wasm.imports)) (list_any test (hosts_from L (n + 1) ys))
      (hosts_there test (n + 1) ys j x e p i at (ap (λ k. list_any test (host_of_import L k x.wasm i)) (sym here) ∙ is))

  -- ---- their slots

  abbrev HasSlot : Ref → Type 0
  HasSlot r = (n : ℕ) × (fresh_slot L r ≡ Some n)

  outside_slot : (r : Ref) → list_any (same_ref r) (outside_slots L) ≡ true → HasSlot r
  outside_slot r e =
      let p = place_found (same_ref r) (linked_plan L).table_end (fresh_slots L)
      (list_any-append (same_ref r) (fresh_functions L) (outside_slots L) ∙ or_right (list_any (same_ref r) (fresh_functions L)) (list_any (same_ref r) (outside_slots L)) e) in
      (p.0, p.1)

  loader_slot : (call : LoaderCall) → list_any (same_ref (Loader call)) (outside_refs L) ≡ true → HasSlot (Loader call)
  loader_slot call e =
      let kept = any_kept (same_ref (Loader call)) (λ r. list_any (same_ref r) (outside_refs L))
      (λ r h. subst (λ q. list_any (same_ref q) (outside_refs L) ≡ true) (refs_equal (Loader call) r h) e) all_loaders (a_loader call) in
      outside_slot (Loader call)
      (list_any-append (same_ref (Loader call)) (filter (λ r. list_any (same_ref r) (outside_refs L)) all_loaders) (first_refs [] (filter is_host_ref (outside_refs L)))
      ∙ or_left _ (list_any (same_ref (Loader call)) (first_refs [] (filter is_host_ref (outside_refs L)))) kept)

  host_slot : (n : ℕ) → list_any (same_ref (Host n)) (outside_refs L) ≡ true → HasSlot (Host n)
  host_slot n e =
      let kept = any_kept (same_ref (Host n)) is_host_ref (λ r h. subst (λ q. is_host_ref q ≡ true) (refs_equal (Host n) r h) refl) (outside_refs L) e in
      outside_slot (Host n)
      (list_any-append (same_ref (Host n)) (filter (λ r. list_any (same_ref r) (outside_refs L)) all_loaders) (first_refs [] (filter is_host_ref (outside_refs L)))
      ∙ or_right (list_any (same_ref (Host n)) (filter (λ r. list_any (same_ref r) (outside_refs L)) all_loaders)) _
      (first_ref (Host n) [] (filter is_host_ref (outside_refs L)) kept))

  -- ---- cells

  abbrev pub HasNumber : ℕ → CellName → Type 0
  HasNumber m c = (n : ℕ) × (cell_number L c.1 (definition L m c.0 c.1) ≡ Some n)

  module _ (m : ℕ) (x : Member) (found : slice_get L.set.members m ≡ Some x) (p : ℕ) (i : Import) (at : slice_get x.wasm.imports p ≡ Some i) where
    data_number : (d : Definition) → Tells L kind.Mem i.field d → data_cell_fault m i.field d ≡ None → (n : ℕ) × (cell_number L i.field d ≡ Some n)
    data_number (LoaderFunction call) tells none = absurd cc
    data_number HeapBase tells none = (_, refl)
    data_number HeapEnd tells none = (_, refl)
    data_number (MemberFunction k g) tells none = absurd cc
    data_number (MemberData k place) tells none = tells
    data_number HostFunction tells none = absurd cc
    data_number WeakSymbol tells none = (0, refl)
    data_number Undefined tells none = absurd cc

    -- a host function that is declared with its type
    host_typed_there : (o : Option FuncType) → is_some o ≡ true → list_any (is_named env_name i.field) (host_named env_name i.field o) ≡ true
    host_typed_there None e = absurd cc
    host_typed_there (Some ty) e =
        let same : bytes_eq i.field i.field ≡ true = (bytes_eq-Decides i.field i.field).1 refl in
        ap (λ (b : Bool). b || false) same

    host_there : (d : Definition) → d ≡ HostFunction → definition L m kind.Func i.field ≡ d → is_host_for L.names kind.Func i.field ≡ true → use_of i ≡ SlotCell
        → (n : ℕ) × (host_entry L env_name i.field ≡ Some n)
    host_there d is e declared u =
        let named = host_typed_there (host_typed L.names env_name i.field) declared in
        let defined : list_any (is_named env_name i.field) (host_defined (definition L m kind.Func i.field) (host_named env_name i.field (host_typed L.names env_name i.field))) ≡ true =
        ap (λ (z : Definition). list_any (is_named env_name i.field) (host_defined z (host_named env_name i.field (host_typed L.names env_name i.field)))) (e ∙ is) ∙ named in
        let given : list_any (is_named env_name i.field) (host_of_import L m x.wasm i) ≡ true =
        ap (λ (z : ImportUse). list_any (is_named env_name i.field) (host_as L m x.wasm i z)) u ∙ defined in
        let same : 0 + m ≡ m = omega arith in
        let all = hosts_there (is_named env_name i.field) 0 L.set.members m x found p i at (ap (λ k. list_any (is_named env_name i.field) (host_of_import L k x.wasm i)) same ∙ given) in
        let p = place_found (is_named env_name i.field) 0 (hosts_of L) (first_name env_name i.field [] (hosts_from L 0 L.set.members) all) in
        (p.0, p.1)

    -- what the import has a slot of
    imported_there : (test : Ref → Bool) (r : Ref) → test r ≡ true → use_of i ≡ SlotCell → outside_ref L i.field (definition L m kind.Func i.field) ≡ Some r
        → list_any test (outside_refs L) ≡ true
    imported_there test r passes u is =
        let given : outside_of_import L m i ≡ Some r = ap (outside_as L m i) u ∙ is in
        let same : 0 + m ≡ m = omega arith in
        outside_there test r passes 0 L.set.members m x found p i at (ap (λ k. outside_of_import L k i) same ∙ given)

    slot_number : (d : Definition) → definition L m kind.Func i.field ≡ d → use_of i ≡ SlotCell → Tells L kind.Func i.field d → slot_cell_fault m i.field d ≡ None
        → (n : ℕ) × (cell_number L i.field d ≡ Some n)
    slot_number (LoaderFunction call) e u tells none =
        loader_slot call (imported_there (same_ref (Loader call)) (Loader call) (calls_same call) u (ap (outside_ref L i.field) e))
    slot_number HeapBase e u tells none = absurd cc
    slot_number HeapEnd e u tells none = absurd cc
    slot_number (MemberFunction k g) e u tells none = tells
    slot_number (MemberData k place) e u tells none = absurd cc
    slot_number HostFunction e u tells none =
        let entry = host_there HostFunction refl e tells u in
        let is : host_ref L env_name i.field ≡ Some (Host entry.0) = ap (λ (o : Option ℕ). o >>= λ n. Some (Host n)) entry.1 in
        let slot = host_slot entry.0 (imported_there (same_ref (Host entry.0)) (Host entry.0) (eq-eqb entry.0 entry.0 refl) u (ap (outside_ref L i.field) e ∙ is)) in
        (slot.0, ap (λ (o : Option Ref). o >>= slot_of L) is ∙ slot.1)
    slot_number WeakSymbol e u tells none = (0, refl)
    slot_number Undefined e u tells none = absurd cc

    cell_numbered : (u : ImportUse) → use_of i ≡ u → fault_as L m x.wasm i u ≡ None → All (HasNumber m) (cell_as i u)
    cell_numbered DataCell u none =
        let fine = (or_none (unless _ _) (data_cell_fault m i.field (definition L m kind.Mem i.field)) none).1 in
        All-cons (HasNumber m) (kind.Mem, i.field) [] (data_number (definition L m kind.Mem i.field) (definition_tells L kind.Mem i.field m) fine) (All-nil (HasNumber m))
    cell_numbered SlotCell u none =
        let fine = (or_none (unless _ _) (slot_cell_fault m i.field (definition L m kind.Func i.field)) none).1 in
        All-cons (HasNumber m) (kind.Func, i.field) [] (slot_number (definition L m kind.Func i.field) refl u (definition_tells L kind.Func i.field m) fine) (All-nil (HasNumber m))
    cell_numbered _ u none = All-nil (HasNumber m)

  first_numbered : (m : ℕ) (known cs : List CellName) → All (HasNumber m) cs → All (HasNumber m) (first_cells known cs)
  first_numbered m known [] all = All-nil (HasNumber m)
  first_numbered m known (c ∷ cs) all = go (list_any (same_cell c) known) (λ more. first_numbered m more cs (All-tail (HasNumber m) c cs all))
    where
      go : (b : Bool) → ((more : List CellName) → All (HasNumber m) (first_cells more cs)) → All (HasNumber m) (if b then first_cells known cs else c ∷ first_cells (known ++ c ∷ []) cs)
      go true more = more known
      go false more = All-cons (HasNumber m) c _ (All-head (HasNumber m) c cs all) (more (known ++ c ∷ []))

  imports_numbered : (m : ℕ) (is : List Import) → ((p : ℕ) (i : Import) → slice_get is p ≡ Some i → All (HasNumber m) (cell_of_import i)) → All (HasNumber m) (flat_map cell_of_import is)
  imports_numbered m [] each = All-nil (HasNumber m)
  imports_numbered m (i ∷ is) each =
      All-append (HasNumber m) (cell_of_import i) (flat_map cell_of_import is) (each 0 i refl) (imports_numbered m is (λ p j e. each (suc p) j e))

  pub cells_numbered : Links L → (m : ℕ) (x : Member) → slice_get L.set.members m ≡ Some x → All (HasNumber m) (cells_of x.wasm)
  cells_numbered links m x found =
      first_numbered m [] (flat_map cell_of_import x.wasm.imports)
      (imports_numbered m x.wasm.imports (λ p i at. cell_numbered m x found p i at (use_of i) refl ((linked_member L m x links found).imports p i at)))
