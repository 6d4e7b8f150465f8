-- Each function that a member defines under a name has a slot, and each member has its bases.
use Rattle.std.proofs.Common.{◌≡◌, ℕ, zero, suc, ◌+◌, ◌<◌, Bool, true, false, ◌||◌, List, [], ◌∷◌, ◌++◌, length, map, slice_get, nat_eq, Option, Some, None, cond, refl, sym, ap, ◌∙◌, subst, arith, if◌then◌else◌}
use Rattle.std.specs.Prelude.{bytes_eq, is_none, ◌&&◌}
use Rattle.std.specs.List.{list_any, filter, position_from}
use Rattle.std.proofs.lemmas.Bool.{or_left, or_right, eq-eqb, eqb-true}
use Rattle.std.proofs.lemmas.List.{length-map}
use Rattle.std.proofs.lemmas.List.Folds.{list_any-append}
use Rattle.std.proofs.lemmas.Slice.Eq.{bytes_eq-Decides}
use Rattle.spec_execution.specs.wasm_form.declared.module.ExportDesc.{ExportDesc}
use Rattle.spec_execution.specs.wasm_form.declared.module.Export.{Export}
use Rattle.spec_execution.specs.wasm_form.declared.module.Module.{Module}
use Rattle.spec_execution.specs.wasm_form.declared.runtime.Ref.{Ref}
use Rattle.spec_execution.specs.wasm_form.declared.runtime.Ref.TheVariants.{Own}
use Rattle.spec_execution.specs.spec_binary.Options.{◌>>=◌}
use Rattle.spec_execution.specs.spec_binary.Exports.{exported_as}
use Rattle.spec_execution.proofs.of_spec_binary.Options.{went_on}
use Rattle.spec_execution.proofs.of_spec_binary.Lists.{got}
use Rattle.spec_linking.specs.Sets.{Member}
use Rattle.spec_linking.specs.Orders.{is_among}
use Rattle.spec_linking.specs.Plans.{region_of, regions_of, texts_size}
use Rattle.spec_linking.specs.Definitions.{reserved_names, is_one_of, Symbol, FunctionSymbol, desc_symbol, symbol_of, defined_function, or_other}
use Rattle.spec_linking.specs.LinkedSets.{LinkedSet, wasm_of}
use Rattle.spec_linking.specs.Slots.{linked_plan, memory_base, table_base, segment_slot, with_function, functions_with, defined_functions, same_ref, fresh_in, fresh_of, fresh_from, fresh_functions, outside_slots, fresh_slots, fresh_slot, own_slot, slot_of}
use Rattle.spec_linking.proofs.Placing.{bases_length}

-- ---- the functions that exports define

among_more : (f : ℕ) (xs ys : List ℕ) → is_among f xs ≡ true → is_among f (xs ++ ys) ≡ true
among_more f xs ys e = list_any-append (λ x. nat_eq x f) xs ys ∙ or_left (is_among f xs) (is_among f ys) e

among_last : (f : ℕ) (xs : List ℕ) → is_among f (xs ++ f ∷ []) ≡ true
among_last f xs = list_any-append (λ x. nat_eq x f) xs (f ∷ []) ∙ or_right (is_among f xs) (is_among f (f ∷ [])) (or_left (nat_eq f f) false (eq-eqb f f refl))

-- a function that is known stays so, and one that is added is known
stays_known : (f : ℕ) (known : List ℕ) (o : Option ℕ) → is_among f known ≡ true → is_among f (with_function known o) ≡ true
stays_known f known None e = e
stays_known f known (Some g) e = go (is_among g known)
  where
    go : (b : Bool) → is_among f (if b then known else known ++ g ∷ []) ≡ true
    go true = e
    go false = among_more f known (g ∷ []) e

is_added : (f : ℕ) (known : List ℕ) → is_among f (with_function known (Some f)) ≡ true
is_added f known = go (is_among f known) refl
  where
    go : (b : Bool) → is_among f known ≡ b → is_among f (if b then known else known ++ f ∷ []) ≡ true
    go true q = q
    go false q = among_last f known

all_stay : (wasm : Module) (f : ℕ) (known : List ℕ) (es : List Export) → is_among f known ≡ true → is_among f (functions_with wasm known es) ≡ true
all_stay wasm f known [] e = e
all_stay wasm f known (x ∷ es) e = all_stay wasm f (with_function known (defined_function wasm x)) es (stays_known f known (defined_function wasm x) e)

-- an export gives its name this
abbrev Exporting : List ℕ → List Export → ExportDesc → Type 0
Exporting name es d = (i : ℕ) × (x : Export) × (slice_get es i ≡ Some x) × (name ≡ x.name) × (x.desc ≡ d)

exporting : (name : List ℕ) (es : List Export) (d : ExportDesc) → exported_as name es ≡ Some d → Exporting name es d
exporting name [] d e = absurd cc
exporting name (x ∷ es) d e = go (bytes_eq name x.name) refl e (exporting name es d)
  where
    go : (b : Bool) → bytes_eq name x.name ≡ b → (if b then Some x.desc else exported_as name es) ≡ Some d
        → (exported_as name es ≡ Some d → Exporting name es d) → Exporting name (x ∷ es) d
    go true q h more = (let same : x.desc ≡ d = cc in (0, x, refl, (bytes_eq-Decides name x.name).0 q, same))
    go false q h more = (let later = more h in (suc later.0, later.1, later.2, later.3, later.4))

every_known : (wasm : Module) (f : ℕ) (known : List ℕ) (es : List Export) (i : ℕ) (x : Export) → slice_get es i ≡ Some x
    → defined_function wasm x ≡ Some f → is_among f (functions_with wasm known es) ≡ true
every_known wasm f known [] i x e q = absurd cc
every_known wasm f known (y ∷ es) zero x e q =
    let same : y ≡ x = cc in
    let defines : defined_function wasm y ≡ Some f = subst (λ (z : Export). defined_function wasm z ≡ Some f) (sym same) q in
    all_stay wasm f (with_function known (defined_function wasm y)) es (subst (λ o. is_among f (with_function known o) ≡ true) (sym defines) (is_added f known))
every_known wasm f known (y ∷ es) (suc i) x e q = every_known wasm f (with_function known (defined_function wasm y)) es i x e q

-- a name that is defined is exported, and isn't reserved
pub symbol_parts : (wasm : Module) (name : List ℕ) (s : Symbol) → symbol_of wasm name ≡ Some s
    → (is_one_of name reserved_names ≡ false) × ((d : ExportDesc) × (exported_as name wasm.exports ≡ Some d) × (desc_symbol wasm d ≡ Some s))
symbol_parts wasm name s e = go (is_one_of name reserved_names) refl e
  where
    go : (b : Bool) → is_one_of name reserved_names ≡ b → (if b then None else (exported_as name wasm.exports >>= desc_symbol wasm)) ≡ Some s
        → (is_one_of name reserved_names ≡ false) × ((d : ExportDesc) × (exported_as name wasm.exports ≡ Some d) × (desc_symbol wasm d ≡ Some s))
    go true q h = absurd cc
    go false q h = (let d = went_on (exported_as name wasm.exports) (desc_symbol wasm) s h in (q, (d.0, d.1, d.2)))

pub function_known : (wasm : Module) (name : List ℕ) (f : ℕ) → symbol_of wasm name ≡ Some (FunctionSymbol f) → is_among f (defined_functions wasm) ≡ true
function_known wasm name f e =
    let parts = symbol_parts wasm name (FunctionSymbol f) e in
    let x = exporting name wasm.exports parts.1.0 parts.1.1 in
    let free : is_one_of x.1.name reserved_names ≡ false = subst (λ n. is_one_of n reserved_names ≡ false) x.3 parts.0 in
    let is : desc_symbol wasm x.1.desc ≡ Some (FunctionSymbol f) = subst (λ d. desc_symbol wasm d ≡ Some (FunctionSymbol f)) (sym x.4) parts.1.2 in
    let defines : defined_function wasm x.1 ≡ Some f = rw (free, is) refl in
    every_known wasm f [] wasm.exports x.0 x.1 x.2 defines

-- ---- slots

-- where a test passes, there is a place
pub place_found : {A : Type 0} (test : A → Bool) (k : ℕ) (xs : List A) → list_any test xs ≡ true → (n : ℕ) × (position_from test k xs ≡ Some n) × (n < k + length xs)
place_found test k [] e = absurd cc
place_found test k (x ∷ xs) e = go (test x) e (place_found test (k + 1) xs)
  where
    go : (b : Bool) → (b || list_any test xs) ≡ true → (list_any test xs ≡ true → (n : ℕ) × (position_from test (k + 1) xs ≡ Some n) × (n < k + 1 + length xs))
        → (n : ℕ) × (cond b (Some k) (position_from test (k + 1) xs) ≡ Some n) × (n < k + suc (length xs))
    go true h more = (k, refl, omega arith)
    go false h more =
        let later = more h in
        let lt = later.2 in
        (later.0, later.1, omega arith)

among_kept : (f : ℕ) (keep : ℕ → Bool) (xs : List ℕ) → is_among f xs ≡ true → keep f ≡ true → is_among f (filter keep xs) ≡ true
among_kept f keep [] e q = absurd cc
among_kept f keep (x ∷ xs) e q = go (nat_eq x f) refl e (λ h. among_kept f keep xs h q)
  where
    later : (b : Bool) → is_among f (filter keep xs) ≡ true → is_among f (cond b (x ∷ filter keep xs) (filter keep xs)) ≡ true
    later true h = or_right (nat_eq x f) (is_among f (filter keep xs)) h
    later false h = h

    go : (b : Bool) → nat_eq x f ≡ b → (b || is_among f xs) ≡ true → (is_among f xs ≡ true → is_among f (filter keep xs) ≡ true)
        → is_among f (cond (keep x) (x ∷ filter keep xs) (filter keep xs)) ≡ true
    go true h here more =
        let same : x ≡ f = eqb-true x f h in
        let kept : keep x ≡ true = subst (λ y. keep y ≡ true) (sym same) q in
        subst (λ b. is_among f (cond b (x ∷ filter keep xs) (filter keep xs)) ≡ true) (sym kept) (or_left (nat_eq x f) (is_among f (filter keep xs)) h)
    go false h here more = later (keep x) (more here)

own_among : (m f : ℕ) (fs : List ℕ) → is_among f fs ≡ true → list_any (same_ref (Own m f)) (map (Own m) fs) ≡ true
own_among m f [] e = absurd cc
own_among m f (x ∷ fs) e = go (nat_eq x f) refl e (own_among m f fs)
  where
    go : (b : Bool) → nat_eq x f ≡ b → (b || is_among f fs) ≡ true → (is_among f fs ≡ true → list_any (same_ref (Own m f)) (map (Own m) fs) ≡ true)
        → list_any (same_ref (Own m f)) (map (Own m) (x ∷ fs)) ≡ true
    go true h here more =
        let same : f ≡ x = sym (eqb-true x f h) in
        or_left (nat_eq m m && nat_eq f x) (list_any (same_ref (Own m f)) (map (Own m) fs)) (rw (eq-eqb m m refl, eq-eqb f x same) refl)
    go false h here more = or_right (nat_eq m m && nat_eq f x) (list_any (same_ref (Own m f)) (map (Own m) fs)) (more here)

module _ (L : LinkedSet) where
  fresh_there : (test : Ref → Bool) (n : ℕ) (xs : List Member) (i : ℕ) → i < length xs
      → list_any test (map (Own (n + i)) (fresh_of L (n + i))) ≡ true → list_any test (fresh_from L n xs) ≡ true
  fresh_there test n [] i lt e = absurd (omega arith)
  fresh_there test n (x ∷ xs) zero lt e =
      let same : n + 0 ≡ n = omega arith in
      let here : list_any test (map (Own n) (fresh_of L n)) ≡ true = subst (λ k. list_any test (map (Own k) (fresh_of L k)) ≡ true) same e in
      list_any-append test (map (Own n) (fresh_of L n)) (fresh_from L (n + 1) xs)
      ∙ or_left (list_any test (map (Own n) (fresh_of L n))) (list_any test (fresh_from L (n + 1) xs)) here
  fresh_there test n (x ∷ xs) (suc i) lt e =
      let same : n + suc i ≡ n + 1 + i = omega arith in
      let later = fresh_there test (n + 1) xs i (omega arith) (subst (λ k. list_any test (map (Own k) (fresh_of L k)) ≡ true) same e) in
      list_any-append test (map (Own n) (fresh_of L n)) (fresh_from L (n + 1) xs)
      ∙ or_right (list_any test (map (Own n) (fresh_of L n))) (list_any test (fresh_from L (n + 1) xs)) later

  is_fresh : (m f : ℕ) (wasm : Module) → m < length L.set.members → wasm_of L m ≡ Some wasm → is_among f (defined_functions wasm) ≡ true
      → segment_slot L m f ≡ None → list_any (same_ref (Own m f)) (fresh_slots L) ≡ true
  is_fresh m f wasm lt found defined none =
      let kept : is_among f (fresh_in L m (Some wasm)) ≡ true =
      among_kept f (λ g. is_none (segment_slot L m g)) (defined_functions wasm) defined (ap is_none none) in
      let of_member : is_among f (fresh_of L m) ≡ true = subst (λ o. is_among f (fresh_in L m o) ≡ true) (sym found) kept in
      let same : m ≡ 0 + m = omega arith in
      let here : list_any (same_ref (Own m f)) (map (Own (0 + m)) (fresh_of L (0 + m))) ≡ true =
      subst (λ k. list_any (same_ref (Own m f)) (map (Own k) (fresh_of L k)) ≡ true) same (own_among m f (fresh_of L m) of_member) in
      list_any-append (same_ref (Own m f)) (fresh_functions L) (outside_slots L)
      ∙ or_left (list_any (same_ref (Own m f)) (fresh_functions L)) (list_any (same_ref (Own m f)) (outside_slots L))
      (fresh_there (same_ref (Own m f)) 0 L.set.members m lt here)

  -- a function that its member defines under a name has a slot
  pub slot_there : (m f : ℕ) (wasm : Module) → m < length L.set.members → wasm_of L m ≡ Some wasm → is_among f (defined_functions wasm) ≡ true
      → (k : ℕ) × (slot_of L (Own m f) ≡ Some k)
  slot_there m f wasm lt found defined =
      let slot = go (segment_slot L m f) refl in
      (slot.0, ap (own_slot L m f) found ∙ rw defined slot.1)
    where
      go : (o : Option ℕ) → segment_slot L m f ≡ o → (k : ℕ) × (or_other o (fresh_slot L (Own m f)) ≡ Some k)
      go (Some k) q = (k, refl)
      go None q = (let p = place_found (same_ref (Own m f)) (linked_plan L).table_end (fresh_slots L) (is_fresh m f wasm lt found defined q) in (p.0, p.1))

  pub memory_base_there : (m : ℕ) → m < length L.set.members → (b : ℕ) × (memory_base L m ≡ Some b)
  memory_base_there m lt =
      let many = bases_length (λ r. r.mem_size) (λ r. r.mem_align) ((linked_plan L).stack_top + texts_size) (regions_of L.set.members) in
      let regions = length-map L.set.members (λ (x : Member). region_of x.dylink) in
      got (linked_plan L).bases m (omega arith)

  pub table_base_there : (m : ℕ) → m < length L.set.members → (b : ℕ) × (table_base L m ≡ Some b)
  table_base_there m lt =
      let many = bases_length (λ r. r.table_size) (λ r. r.table_align) 1 (regions_of L.set.members) in
      let regions = length-map L.set.members (λ (x : Member). region_of x.dylink) in
      got (linked_plan L).table_bases m (omega arith)
