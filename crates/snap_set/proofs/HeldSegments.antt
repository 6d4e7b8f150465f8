-- The segments of the merged module are as they were at first, or empty.
use Rattle.std.proofs.Common.{◌≡◌, ◌⊎◌, ℕ, suc, ◌+◌, Bool, true, false, List, [], ◌∷◌, ◌++◌, length, map, nat_eq, slice_get, Option, Some, None, if◌then◌else◌, inl, inr, refl, sym, ap, ap₂, ◌∙◌, subst, arith, length-append}
use Rattle.std.specs.Prelude.{◌≤◌}
use Rattle.std.specs.List.{All}
use Rattle.std.proofs.lemmas.List.{length-map}
use Rattle.std.proofs.lemmas.List.Elements.{All-head, All-tail}
use Rattle.spec_loading.specs.wasm_form.declared.module.Elem.{Elem}
use Rattle.spec_loading.specs.wasm_form.declared.module.Data.{Data}
use Rattle.spec_loading.specs.wasm_form.declared.module.Module.{Module}
use Rattle.spec_loading.specs.wasm_form.declared.runtime.Ref.{Ref}
use Rattle.spec_loading.specs.wasm_form.declared.runtime.Ref.TheVariants.{Own}
use Rattle.spec_loading.specs.spec_binary.Options.{◌>>=◌}
use Rattle.spec_loading.specs.spec_execution.Segments.{opened_items}
use Rattle.spec_loading.specs.spec_execution.Instances.{module_target, segment_items}
use Rattle.spec_loading.specs.spec_linking.Sets.{Member}
use Rattle.spec_loading.specs.spec_linking.LinkedSets.{LinkedSet, wasm_of}
use Rattle.spec_loading.specs.spec_linking.Slots.{linked_plan, fresh_of, member_items}
use Rattle.spec_loading.proofs.of_spec_validation.Parts.{parts_fit}
use Rattle.spec_loading.specs.Loading.{LoaderState, stage_in}
use Rattle.spec_loading.specs.Members.{Store, from_members, opening_store}
use Rattle.spec_keeping.specs.Keeping.{AreLeft}
use Rattle.merge_match.specs.Renumbering.{Numbers, entry}
use Rattle.merge_start.specs.Started.{slot_items}
use Rattle.merge_index.specs.Numbering.{numbers_of}
use Rattle.merge_index.proofs.Counted.{joined_length}
use Rattle.merge_module.specs.MergedModule.{passive_elem, slots_elem, merged_elems, passive_data, texts_segment, merged_datas, merged_module}
use Rattle.merge_module.proofs.Known.{IsKnown}
use Rattle.merge_module.proofs.SetMembers.{is_sound}
use Rattle.merge_module.proofs.OpenedItems.{members_mapped, elems_same}
use Rattle.merge_module.proofs.SlotFunctions.{IsOwnIn, fresh_own}
use Rattle.merge_module.proofs.Opens.{has_parts}
use Rattle.merge_module.proofs.OpenedStore.{own_target}
use Rattle.snap_module.specs.Held.{AreElems}
use Rattle.snap_set.specs.Parts.{slots_at, slots_left}

-- ---- lists

pub left_length : {A : Type 0} (xs ys : List (List A)) → AreLeft xs ys → length ys ≡ length xs
left_length [] [] left = refl
left_length [] (y ∷ ys) left = absurd left
left_length (x ∷ xs) [] left = absurd left
left_length (x ∷ xs) (y ∷ ys) left = ap suc (left_length xs ys left.1)

module _ (m : Module) where
  append_elems : (es fs : List Elem) (xs ys : List (List (Option Ref))) → AreElems m es xs → AreElems m fs ys → AreElems m (es ++ fs) (xs ++ ys)
  append_elems [] fs [] ys one two = two
  append_elems [] fs (x ∷ xs) ys one two = absurd one
  append_elems (e ∷ es) fs [] ys one two = absurd one
  append_elems (e ∷ es) fs (x ∷ xs) ys one two = (one.0, append_elems es fs xs ys one.1 two)

  -- what is left of segments is left by the numbers
  elems_left : (n : Numbers) (es : List Elem) (before now : List (List (Option Ref)))
      → map (opened_items (segment_items m)) es ≡ map (map (entry n)) before → AreLeft before now → AreElems m es (map (map (entry n)) now)
  elems_left n [] [] [] same left = tt
  elems_left n [] [] (y ∷ ys) same left = absurd left
  elems_left n [] (x ∷ xs) now same left = absurd cc
  elems_left n (e ∷ es) [] now same left = absurd cc
  elems_left n (e ∷ es) (x ∷ xs) [] same left = absurd left
  elems_left n (e ∷ es) (x ∷ xs) (y ∷ ys) same left = (
    one left.0,
    elems_left n es xs ys (let later : map (opened_items (segment_items m)) es ≡ map (map (entry n)) xs = cc in later) left.1,
  )
    where
      here : opened_items (segment_items m) e ≡ map (entry n) x
      here = cc

      one : (y ≡ []) ⊎ (y ≡ x) → (map (entry n) y ≡ []) ⊎ (map (entry n) y ≡ opened_items (segment_items m) e)
      one (inl none) = inl (ap (map (entry n)) none)
      one (inr is) = inr (ap (map (entry n)) is ∙ sym here)

module _ (L : LinkedSet) (K : IsKnown L) (few : (linked_plan L).pages_max ≤ 16384) where
  abbrev n : Numbers
  n = numbers_of L

  abbrev M : Module
  M = merged_module L

  -- ---- those of members

  own_elems_same : map (opened_items (segment_items M)) (from_members (λ k wasm. map (passive_elem n k) wasm.elems) 0 L.set.members)
      ≡ map (map (entry n)) (opening_store L).elems
  own_elems_same =
      members_mapped (opened_items (segment_items M)) (map (entry n)) (λ k wasm. map (passive_elem n k) wasm.elems) (λ k wasm. map (opened_items (member_items L k)) wasm.elems) 0 L.set.members
      (λ i y at. elems_same L n M (has_parts L K few).targets (0 + i) y.wasm y.wasm.elems
      (parts_fit y.wasm (is_sound L i y.wasm K.set (ap (λ (o : Option Member). o >>= λ z. Some z.wasm) at)).valid).elems)

  -- ---- those of fresh slots

  own_items : (k : ℕ) (w : Module) → wasm_of L k ≡ Some w → (fs : List ℕ) → All (IsOwnIn w) fs
      → map (module_target M) (map n.function (map (Own k) fs)) ≡ map (entry n) (map Some (map (Own k) fs))
  own_items k w here [] all = refl
  own_items k w here (f ∷ fs) all =
      ap₂ (λ a l. a ∷ l) (own_target L K few k w here f (All-head (IsOwnIn w) f fs all)) (own_items k w here fs (All-tail (IsOwnIn w) f fs all))

  module _ (loader : LoaderState) where
    abbrev AreSlots : ℕ → List (Option Ref) → Type 0
    AreSlots k xs = (xs ≡ []) ⊎ (xs ≡ opened_items (segment_items M) (slots_elem L n k))

    slots_are : (k : ℕ) (w : Module) → wasm_of L k ≡ Some w → AreSlots k (slots_left L loader k)
    slots_are k w here = go (stage_in loader k)
      where
        by : (b : Bool) → AreSlots k (if b then slot_items L n k else [])
        by true = inr (sym (own_items k w here (fresh_of L k) (fresh_own L k w here)))
        by false = inl refl

        go : (o : Option ℕ) → AreSlots k (slots_at L k o)
        go None = inl refl
        go (Some stage) = by (nat_eq stage 0)

    slots_fit : (k : ℕ) (xs : List Member) → ((i : ℕ) (y : Member) → slice_get xs i ≡ Some y → wasm_of L (k + i) ≡ Some y.wasm)
        → AreElems M (from_members (λ j wasm. slots_elem L n j ∷ []) k xs) (from_members (λ j wasm. slots_left L loader j ∷ []) k xs)
    slots_fit k [] there = tt
    slots_fit k (x ∷ xs) there =
        let place : k + 0 ≡ k = omega arith in
        let here : wasm_of L k ≡ Some x.wasm = subst (λ j. wasm_of L j ≡ Some x.wasm) place (there 0 x refl) in (
          slots_are k x.wasm here,
          slots_fit (k + 1) xs (λ i y at. (let next : k + suc i ≡ k + 1 + i = omega arith in subst (λ j. wasm_of L j ≡ Some y.wasm) next (there (suc i) y at))),
        )

    pub elems_can : (us : Store) → AreLeft (opening_store L).elems us.elems
        → AreElems M (merged_elems L n) (map (map (entry n)) us.elems ++ (from_members (λ j wasm. slots_left L loader j ∷ []) 0 L.set.members ++ [] ∷ [] ∷ []))
    elems_can us left =
        append_elems M (from_members (λ k wasm. map (passive_elem n k) wasm.elems) 0 L.set.members) _ (map (map (entry n)) us.elems) _
        (elems_left M n (from_members (λ k wasm. map (passive_elem n k) wasm.elems) 0 L.set.members) (opening_store L).elems us.elems own_elems_same left)
        (append_elems M (from_members (λ j wasm. slots_elem L n j ∷ []) 0 L.set.members) _ (from_members (λ j wasm. slots_left L loader j ∷ []) 0 L.set.members) _
        (slots_fit 0 L.set.members (λ i y at. (let place : i ≡ 0 + i = omega arith in subst (λ j. wasm_of L j ≡ Some y.wasm) place (ap (λ (o : Option Member). o >>= λ z. Some z.wasm) at))))
        (inl refl, (inl refl, tt)))

-- ---- data segments

pub datas_many : (L : LinkedSet) (us : Store) → AreLeft (opening_store L).datas us.datas → length (us.datas ++ [] ∷ []) ≡ length (merged_datas L)
datas_many L us left =
    let now = left_length (opening_store L).datas us.datas left in
    let one = joined_length (λ k wasm. map (λ (d : Data). d.bytes) wasm.datas) (λ w. length w.datas) (λ k w. length-map w.datas (λ (d : Data). d.bytes)) 0 L.set.members in
    let two = joined_length (λ k wasm. map passive_data wasm.datas) (λ w. length w.datas) (λ k w. length-map w.datas passive_data) 0 L.set.members in
    let held = length-append us.datas ([] ∷ []) in
    let all = length-append (from_members (λ k wasm. map passive_data wasm.datas) 0 L.set.members) (texts_segment L ∷ []) in
    omega arith
