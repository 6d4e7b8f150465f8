-- The code of the functions of the loader is well typed (WebAssembly Core 2.0, section 3.3), where the module has what it names.
use Rattle.std.proofs.Common.{◌≡◌, ℕ, ◌+◌, ◌<◌, subst, max, List, [], ◌∷◌, ◌++◌, length, slice_get, Some, None, Bool, true, false, if◌then◌else◌, refl, ap, ◌∙◌, arith}
use Rattle.std.specs.List.{All, AllByRecursion as Each}
use Rattle.std.proofs.lemmas.List.{length-drop}
use Rattle.std.proofs.lemmas.List.Elements.{All-head, All-tail, All-same, All-weaker}
use Rattle.wasm_form.specs.declared.types.ValType.{ValType}
use Rattle.wasm_form.specs.declared.types.ValType.TheVariants.{I32, I64}
use Rattle.wasm_form.specs.declared.instr.BlockType.TheVariants.{Empty}
use Rattle.wasm_form.specs.declared.instr.Instr.{Instr, Plain, Index, Loop}
use Rattle.wasm_form.specs.declared.module.Module.{Module}
use Rattle.wasm_form.specs.declared.runtime.LoaderCall.{LoaderCall}
use Rattle.wasm_form.specs.declared.runtime.LoaderCall.TheVariants.{Dlopen, Dlsym, Dlclose, Dlerror}
use Rattle.spec_loading.specs.spec_validation.Stacks.{Stack, unreachable, ends_with}
use Rattle.spec_loading.specs.spec_validation.Context.{Context, Labels}
use Rattle.wasm_typing.proofs.Laws.{after-Plain, after-Index, after-Loop, after-If}
use Rattle.spec_loading.specs.spec_execution.Views.{loader_type}
use Rattle.spec_loading.specs.spec_linking.Sets.{Member}
use Rattle.spec_loading.specs.spec_linking.Orders.{closure, is_among}
use Rattle.spec_loading.specs.spec_linking.Gathering.{IsSet}
use Rattle.spec_loading.specs.spec_linking.LinkedSets.{LinkedSet}
use Rattle.spec_loading.specs.LoaderAnswers.{bad_flags_error, no_module_error, bad_handle_error, no_symbol_error, bad_close_error, other_flags, not_closed, global_flag, later_members}
use Rattle.merge_start.specs.Words.{Starts, place_global, next_place, promote_one, promote_each, promote_code}
use Rattle.spec_loading.proofs.InsideSets.{closure_inside}
use Rattle.merge_start.proofs.Promoted.{later_inside}
use Rattle.merge_start.proofs.Typed.{One, number_typed, less_typed, get_typed, set_typed}
use Rattle.merge_find.specs.Decisions.{may_be_string, strings}
use Rattle.merge_find.specs.Typed.{Ends, SearchIsTyped, BodyIsTyped}
use Rattle.merge_find.proofs.Types.{none, on_top, Types, done, step, types_then, meaning, types_of, body_typed, when_typed, local_typed, load_typed}
use Rattle.merge_dl.specs.Words.{Finders, when, return_code, give_code, fault_code, is_local, length_code, name_numbers, opens_code, named_members, open_goal, members_code, open_call_code, try_code, tries_code, handle_code, handles_code, libraries, symbol_call_code, closes_code, close_call_code, text_code, error_call_code, handle_type, unary_type, search_type, length_body, find_body, call_body, tries_then, before_code, keep_code, ask_code, prefers_code, promoted_code, candidates, last_place}
use Rattle.merge_dl.specs.Typed.{HasHeight, number_type, HasNamed, LoaderIsTyped}
use Rattle.merge_dl.proofs.Candidates.{candidates_inside}

-- ---- code under labels

one : {c : Context} {labels : Labels} {i : Instr} {s t : Stack} → One c i s t → Types c labels (i ∷ []) s t
one {labels} a = (let b = a labels in step b.0 b.1 done)

module _ {c : Context} {labels : Labels} where
  -- ---- blocks, whose code begins with nothing on the stack

  -- over a number that stays
  when_over : {p : List Instr} (t : Stack) → ends_with [] t ≡ true → Types c ([] ∷ labels) p none t
      → Types c labels (when p ∷ []) (on_top (I32 ∷ I32 ∷ []) none) (on_top (I32 ∷ []) none)
  when_over {p} t ends a =
      let m = meaning a in
      step (1 + max m.0 0) (after-If c Empty (record { list = p }) None labels (on_top (I32 ∷ I32 ∷ []) none) ∙ rw (m.1, ends) refl) done

  loop_typed : {p : List Instr} (t : Stack) → ends_with [] t ≡ true → Types c ([] ∷ labels) p none t → Types c labels (Loop Empty (record { list = p }) ∷ []) none none
  loop_typed {p} t ends a =
      let m = meaning a in
      step (0 + m.0) (after-Loop c Empty (record { list = p }) labels none ∙ rw (m.1, ends) refl) done

  -- ---- instructions

  set_local_typed : (k : ℕ) (s : Stack) → slice_get c.locals k ≡ Some I32 → Types c labels (Index 0x21 k ∷ []) (on_top (I32 ∷ []) s) s
  set_local_typed k s e = step 0 (after-Index c 0x21 k labels (on_top (I32 ∷ []) s) ∙ rw e refl) done

  set_wide_typed : (k : ℕ) (s : Stack) → slice_get c.locals k ≡ Some I64 → Types c labels (Index 0x21 k ∷ []) (on_top (I64 ∷ []) s) s
  set_wide_typed k s e = step 0 (after-Index c 0x21 k labels (on_top (I64 ∷ []) s) ∙ rw e refl) done

  tee_local_typed : (k : ℕ) (s : Stack) → slice_get c.locals k ≡ Some I64 → Types c labels (Index 0x22 k ∷ []) (on_top (I64 ∷ []) s) (on_top (I64 ∷ []) s)
  tee_local_typed k s e = step 0 (after-Index c 0x22 k labels (on_top (I64 ∷ []) s) ∙ rw e refl) done

  eqz_typed : (s : Stack) → Types c labels (Plain 0x45 ∷ []) (on_top (I32 ∷ []) s) (on_top (I32 ∷ []) s)
  eqz_typed s = step 0 (after-Plain c 0x45 labels (on_top (I32 ∷ []) s)) done

  equal_typed : (s : Stack) → Types c labels (Plain 0x46 ∷ []) (on_top (I32 ∷ I32 ∷ []) s) (on_top (I32 ∷ []) s)
  equal_typed s = step 0 (after-Plain c 0x46 labels (on_top (I32 ∷ I32 ∷ []) s)) done

  add_typed : (s : Stack) → Types c labels (Plain 0x6A ∷ []) (on_top (I32 ∷ I32 ∷ []) s) (on_top (I32 ∷ []) s)
  add_typed s = step 0 (after-Plain c 0x6A labels (on_top (I32 ∷ I32 ∷ []) s)) done

  sub_typed : (s : Stack) → Types c labels (Plain 0x6B ∷ []) (on_top (I32 ∷ I32 ∷ []) s) (on_top (I32 ∷ []) s)
  sub_typed s = step 0 (after-Plain c 0x6B labels (on_top (I32 ∷ I32 ∷ []) s)) done

  and_typed : (s : Stack) → Types c labels (Plain 0x71 ∷ []) (on_top (I32 ∷ I32 ∷ []) s) (on_top (I32 ∷ []) s)
  and_typed s = step 0 (after-Plain c 0x71 labels (on_top (I32 ∷ I32 ∷ []) s)) done

  wide_eqz_typed : (s : Stack) → Types c labels (Plain 0x50 ∷ []) (on_top (I64 ∷ []) s) (on_top (I32 ∷ []) s)
  wide_eqz_typed s = step 0 (after-Plain c 0x50 labels (on_top (I64 ∷ []) s)) done

  wrap_typed : (s : Stack) → Types c labels (Plain 0xA7 ∷ []) (on_top (I64 ∷ []) s) (on_top (I32 ∷ []) s)
  wrap_typed s = step 0 (after-Plain c 0xA7 labels (on_top (I64 ∷ []) s)) done

  unary_call_typed : (f : ℕ) (s : Stack) → c.functions f ≡ Some unary_type → Types c labels (Index 0x10 f ∷ []) (on_top (I32 ∷ []) s) (on_top (I32 ∷ []) s)
  unary_call_typed f s e = step 0 (after-Index c 0x10 f labels (on_top (I32 ∷ []) s) ∙ rw e refl) done

  search_call_typed : (f : ℕ) (s : Stack) → c.functions f ≡ Some search_type → Types c labels (Index 0x10 f ∷ []) (on_top (I32 ∷ I32 ∷ []) s) (on_top (I64 ∷ []) s)
  search_call_typed f s e = step 0 (after-Index c 0x10 f labels (on_top (I32 ∷ I32 ∷ []) s) ∙ rw e refl) done

  handle_call_typed : (f : ℕ) (s : Stack) → c.functions f ≡ Some handle_type → Types c labels (Index 0x10 f ∷ []) s (on_top (I32 ∷ []) s)
  handle_call_typed f s e = step 0 (after-Index c 0x10 f labels s ∙ rw e refl) done

  returns_number : c.results ≡ I32 ∷ [] → Types c labels return_code (on_top (I32 ∷ []) none) unreachable
  returns_number e = step 0 (after-Plain c 0x0F labels (on_top (I32 ∷ []) none) ∙ rw e refl) done

  -- ---- pieces

  give_typed : (k : ℕ) → c.results ≡ I32 ∷ [] → Types c labels (give_code k) none unreachable
  give_typed k results = types_then (one (number_typed c k none)) (returns_number results)

  fault_typed : (d : Finders) (e answer : ℕ) → c.results ≡ I32 ∷ [] → c.globals d.error ≡ Some number_type → Types c labels (fault_code d e answer) none unreachable
  fault_typed d e answer results there =
      types_then (one (number_typed c e none)) (types_then (one (set_typed c d.error none number_type there refl refl)) (give_typed answer results))

  is_local_typed : (v k : ℕ) → slice_get c.locals v ≡ Some I32 → Types c labels (is_local v k) none (on_top (I32 ∷ []) none)
  is_local_typed v k e =
      types_then (local_typed v I32 none e) (types_then (one (number_typed c k (on_top (I32 ∷ []) none))) (equal_typed none))

module _ {c : Context} {labels : Labels} where
  again_typed : Types c ([] ∷ [] ∷ labels) (Index 0x0C 1 ∷ []) none unreachable
  again_typed = step 0 (after-Index c 0x0C 1 ([] ∷ [] ∷ labels) none) done

  -- ---- the length of a string

  length_typed : c.memory ≡ true → slice_get c.locals 0 ≡ Some I32 → slice_get c.locals 1 ≡ Some I32 → Types c labels length_code none (on_top (I32 ∷ []) none)
  unfolding length_code
  length_typed memory e k =
      types_then (local_typed 0 I32 none e) (types_then (set_local_typed 1 none k)
      (types_then
      (loop_typed none refl (types_then (local_typed 1 I32 none k) (types_then (load_typed 0 none memory)
      (when_typed unreachable refl (types_then (local_typed 1 I32 none k) (types_then (one (number_typed c 1 (on_top (I32 ∷ []) none)))
      (types_then (add_typed none) (types_then (set_local_typed 1 none k) again_typed))))))))
      (types_then (local_typed 1 I32 none k) (types_then (local_typed 0 I32 (on_top (I32 ∷ []) none) e) (sub_typed none)))))

-- ---- the functions of the loader

module _ {c : Context} {L : LinkedSet} {x : Starts} {d : Finders} (has : HasNamed c L x d) (results : c.results ≡ I32 ∷ []) where
  abbrev IsInside : ℕ → Type 0
  IsInside m = m < length L.set.members

  -- promoted members

  place_there : (k : ℕ) → k < length L.set.members → c.globals (place_global x k) ≡ Some number_type
  place_there k lt = (let same : x.promoted + (1 + k) ≡ x.promoted + 1 + k = omega arith in subst (λ g. c.globals g ≡ Some number_type) same (has.promoted (1 + k) (omega arith)))

  count_there : c.globals x.promoted ≡ Some number_type
  count_there = (let same : x.promoted + 0 ≡ x.promoted = omega arith in subst (λ g. c.globals g ≡ Some number_type) same (has.promoted 0 (omega arith)))

  later_all : IsSet L.set → (m : ℕ) → m < length L.set.members → All (λ k. k < length L.set.members) (later_members L.set m)
  later_all set m lt =
      All-weaker (λ k. (k < length L.set.members) × (is_among k L.set.startup ≡ false)) (λ k. k < length L.set.members) (λ k is. is.0)
      (later_members L.set m) (later_inside L set m lt)

  module _ {labels : Labels} where
    guard_typed : (m : ℕ) → m < length L.set.members → Types c labels (Index 0x23 (x.guards + m) ∷ []) none (on_top (I32 ∷ []) none)
    guard_typed m lt = one (get_typed c (x.guards + m) none number_type (has.guards m lt) refl)

    faults_typed : (e answer : ℕ) → Types c labels (fault_code d e answer) none unreachable
    faults_typed e answer = fault_typed d e answer results has.error

    next_typed : (k : ℕ) → k < length L.set.members → Types c labels (next_place x k) none none
    next_typed k lt =
        types_then (one (get_typed c x.promoted none number_type count_there refl)) (types_then (one (number_typed c 1 (on_top (I32 ∷ []) none)))
        (types_then (add_typed none) (types_then (one (set_typed c x.promoted none number_type count_there refl refl))
        (types_then (one (get_typed c x.promoted none number_type count_there refl)) (one (set_typed c (place_global x k) none number_type (place_there k lt) refl refl))))))

  module _ {labels : Labels} where
    promote_typed : (k : ℕ) → k < length L.set.members → Types c labels (promote_one x k) (on_top (I32 ∷ []) none) (on_top (I32 ∷ []) none)
    promote_typed k lt =
        types_then (one (get_typed c (place_global x k) (on_top (I32 ∷ []) none) number_type (place_there k lt) refl))
        (types_then (eqz_typed (on_top (I32 ∷ []) none)) (when_over none refl (next_typed k lt)))

    promotes_typed : (ks : List ℕ) → All (λ k. k < length L.set.members) ks → Types c labels (promote_each x ks) (on_top (I32 ∷ []) none) (on_top (I32 ∷ []) none)
    promotes_typed [] all = done
    promotes_typed (k ∷ ks) all =
        types_then (promote_typed k (All-head (λ i. i < length L.set.members) k ks all)) (promotes_typed ks (All-tail (λ i. i < length L.set.members) k ks all))

    -- dlopen

    opening_typed : (m : ℕ) → m < length L.set.members → Types c labels (Index 0x10 (x.opening m) ∷ return_code) none unreachable
    opening_typed m lt = types_then (handle_call_typed (x.opening m) none (has.opens m lt)) (returns_number results)

    promoting_typed : IsSet L.set → (m : ℕ) → m < length L.set.members → Types c labels (Index 0x10 (x.opening m) ∷ (promote_code L x m ++ return_code)) none unreachable
    promoting_typed set m lt =
        types_then (handle_call_typed (x.opening m) none (has.opens m lt)) (types_then (promotes_typed (later_members L.set m) (later_all set m lt)) (returns_number results))

  module _ {labels : Labels} where
    opens_typed : IsSet L.set → (m : ℕ) → m < length L.set.members → slice_get c.locals 1 ≡ Some I32 → Types c labels (opens_code L x m) none unreachable
    opens_typed set m lt flags =
        types_then (local_typed 1 I32 none flags) (types_then (one (number_typed c global_flag (on_top (I32 ∷ []) none))) (types_then (and_typed none)
        (types_then (when_typed unreachable refl (promoting_typed set m lt)) (opening_typed m lt))))

  -- what opens each member returns
  members_end : (m : ℕ) (members : List Member) → m + length members ≡ length L.set.members → IsSet L.set → slice_get c.locals 1 ≡ Some I32
      → Each (λ y. Ends c y.1) (strings (named_members L x m members))
  members_end m [] many set flags = tt
  members_end m (member ∷ members) many set flags = go (may_be_string member.name) (members_end (m + 1) members (omega arith) set flags)
    where
      opens : Ends c (opens_code L x m)
      opens labels = meaning (opens_typed set m (omega arith) flags)

      go : (z : Bool) → Each (λ y. Ends c y.1) (strings (named_members L x (m + 1) members))
          → Each (λ y. Ends c y.1) (if z then (member.name, opens_code L x m) ∷ strings (named_members L x (m + 1) members) else strings (named_members L x (m + 1) members))
      go true later = (opens, later)
      go false later = later

  members_typed : SearchIsTyped → {labels : Labels} → IsSet L.set → slice_get c.locals 0 ≡ Some I32 → slice_get c.locals 1 ≡ Some I32 → slice_get c.locals 2 ≡ Some I32
      → Types c labels (members_code L x d) none unreachable
  members_typed typed {labels} set name flags len =
      let m = typed c (open_goal d) has.memory name len (λ others. meaning (faults_typed no_module_error 0)) (strings (named_members L x 0 L.set.members))
      (members_end 0 L.set.members (omega arith) set flags) labels in
      types_of (members_code L x d) none unreachable m.0 m.1

  open_typed : SearchIsTyped → {labels : Labels} → IsSet L.set → slice_get c.locals 0 ≡ Some I32 → slice_get c.locals 1 ≡ Some I32 → slice_get c.locals 2 ≡ Some I32
      → Types c labels (open_call_code L x d) none unreachable
  unfolding open_call_code
  open_typed typed set name flags len =
      types_then (local_typed 0 I32 none name) (types_then (eqz_typed none) (types_then (when_typed unreachable refl (give_typed 1 results))
      (types_then (local_typed 0 I32 none name) (types_then (unary_call_typed d.length none has.lengths) (types_then (set_local_typed 2 none len)
      (types_then (local_typed 1 I32 none flags) (types_then (one (number_typed c other_flags (on_top (I32 ∷ []) none)))
      (types_then (and_typed none) (types_then (when_typed unreachable refl (faults_typed bad_flags_error 0))
      (members_typed typed set name flags len))))))))))

  -- dlsym

  module _ {labels : Labels} (handle : slice_get c.locals 0 ≡ Some I32) (name : slice_get c.locals 1 ≡ Some I32) (len : slice_get c.locals 2 ≡ Some I32)
      (value : slice_get c.locals 3 ≡ Some I64) where
    try_typed : (m : ℕ) → m < length L.set.members → Types c labels (try_code d m) none none
    try_typed m lt =
        types_then (local_typed 1 I32 none name) (types_then (local_typed 2 I32 (on_top (I32 ∷ []) none) len)
        (types_then (search_call_typed (d.find m) none (has.finds m lt)) (types_then (tee_local_typed 3 none value)
        (types_then (wide_eqz_typed none) (types_then (eqz_typed none)
        (when_typed unreachable refl (types_then (local_typed 3 I64 none value) (types_then (wrap_typed none) (returns_number results)))))))))

    tries_then_typed : (last : List Instr) → Types c labels last none unreachable → (ms : List ℕ) → All IsInside ms → Types c labels (tries_then d last ms) none unreachable
    tries_then_typed last a [] all = a
    tries_then_typed last a (m ∷ ms) all = types_then (try_typed m (All-head IsInside m ms all)) (tries_then_typed last a ms (All-tail IsInside m ms all))

    tries_typed : (ms : List ℕ) → All IsInside ms → Types c labels (tries_code d ms) none unreachable
    tries_typed ms all = tries_then_typed (fault_code d no_symbol_error 0) (faults_typed no_symbol_error 0) ms all

  -- the search of promoted members

  module _ (name : slice_get c.locals 1 ≡ Some I32) (len : slice_get c.locals 2 ≡ Some I32) (value : slice_get c.locals 3 ≡ Some I64)
      (best : slice_get c.locals 4 ≡ Some I64) (place : slice_get c.locals 5 ≡ Some I32) where
    before_typed : {labels : Labels} (k : ℕ) → k < length L.set.members → Types c labels (before_code x k) none (on_top (I32 ∷ []) none)
    before_typed {labels} k lt =
        types_then (one (get_typed c (place_global x k) none number_type (place_there k lt) refl))
        (types_then (one (number_typed c 1 (on_top (I32 ∷ []) none))) (sub_typed none))

    keep_typed : {labels : Labels} (k : ℕ) → k < length L.set.members → Types c labels (keep_code x k) none none
    keep_typed k lt =
        types_then (before_typed k lt) (types_then (set_local_typed 5 none place) (types_then (local_typed 3 I64 none value) (set_wide_typed 4 none best)))

    ask_typed : {labels : Labels} (k : ℕ) → k < length L.set.members → Types c labels (ask_code x d k) none none
    ask_typed k lt =
        types_then (local_typed 1 I32 none name) (types_then (local_typed 2 I32 (on_top (I32 ∷ []) none) len)
        (types_then (search_call_typed (d.find k) none (has.finds k lt)) (types_then (tee_local_typed 3 none value)
        (types_then (wide_eqz_typed none) (types_then (eqz_typed none) (when_typed none refl (keep_typed k lt)))))))

    prefers_typed : {labels : Labels} (ks : List ℕ) → All IsInside ks → Types c labels (prefers_code x d ks) none none
    prefers_typed [] all = done
    prefers_typed (k ∷ ks) all =
        types_then
        (types_then (before_typed k (All-head IsInside k ks all)) (types_then (local_typed 5 I32 (on_top (I32 ∷ []) none) place)
        (types_then (one (less_typed c none)) (when_typed none refl (ask_typed k (All-head IsInside k ks all))))))
        (prefers_typed ks (All-tail IsInside k ks all))

    promoted_typed : {labels : Labels} → Types c labels (promoted_code L x d) none unreachable
    promoted_typed =
        types_then (one (number_typed c last_place none)) (types_then (set_local_typed 5 none place)
        (types_then (prefers_typed (candidates L.set) (candidates_inside L.set))
        (types_then (local_typed 4 I64 none best) (types_then (wide_eqz_typed none) (types_then (eqz_typed none)
        (types_then (when_typed unreachable refl (types_then (local_typed 4 I64 none best) (types_then (wrap_typed none) (returns_number results)))) (faults_typed no_symbol_error 0)))))))

  module _ (set : IsSet L.set) (handle : slice_get c.locals 0 ≡ Some I32) where
    module _ {labels : Labels} (name : slice_get c.locals 1 ≡ Some I32) (len : slice_get c.locals 2 ≡ Some I32) (value : slice_get c.locals 3 ≡ Some I64) where
      handle_typed : (m : ℕ) → m < length L.set.members → Types c labels (handle_code L x d m) none none
      handle_typed m lt =
          types_then (is_local_typed 0 (m + 1) handle)
          (when_typed unreachable refl
          (types_then (guard_typed m lt)
          (types_then (when_typed unreachable refl (tries_typed handle name len value (closure L.set m) (closure_inside L.set set m lt))) (faults_typed bad_handle_error 0))))

      handles_typed : (m : ℕ) (members : List Member) → m + length members ≡ length L.set.members → Types c labels (handles_code L x d m members) none none
      handles_typed m [] many = done
      handles_typed m (member ∷ members) many = types_then (handle_typed m (omega arith)) (handles_typed (m + 1) members (omega arith))

    many_libraries : 1 + length (libraries L) ≡ length L.set.members
    many_libraries = (let some = set.some in let rest = length-drop 1 L.set.members in omega arith)

    symbol_typed : {labels : Labels} → slice_get c.locals 1 ≡ Some I32 → slice_get c.locals 2 ≡ Some I32 → slice_get c.locals 3 ≡ Some I64
        → slice_get c.locals 4 ≡ Some I64 → slice_get c.locals 5 ≡ Some I32 → Types c labels (symbol_call_code L x d) none unreachable
    unfolding symbol_call_code
    symbol_typed name len value best place =
        let startup = All-same IsInside L.set.startup (closure L.set 0) set.startup (closure_inside L.set set 0 set.some) in
        types_then (local_typed 1 I32 none name) (types_then (unary_call_typed d.length none has.lengths) (types_then (set_local_typed 2 none len)
        (types_then (local_typed 0 I32 none handle) (types_then (one (number_typed c 2 (on_top (I32 ∷ []) none)))
        (types_then (one (less_typed c none)) (types_then (when_typed unreachable refl (tries_then_typed handle name len value (promoted_code L x d) (promoted_typed name len value best place) L.set.startup startup))
        (types_then (handles_typed name len value 1 (libraries L) many_libraries) (faults_typed bad_handle_error 0))))))))

    -- dlclose

    closes_typed : {labels : Labels} (m : ℕ) (members : List Member) → m + length members ≡ length L.set.members → Types c labels (closes_code x m members) none none
    closes_typed m [] many = done
    closes_typed m (member ∷ members) many =
        types_then
        (types_then (is_local_typed 0 (m + 1) handle)
        (when_typed none refl (types_then (guard_typed m (omega arith)) (when_typed unreachable refl (give_typed 0 results)))))
        (closes_typed (m + 1) members (omega arith))

    close_typed : {labels : Labels} → Types c labels (close_call_code L x d) none unreachable
    unfolding close_call_code
    close_typed =
        types_then (types_then (is_local_typed 0 1 handle) (when_typed unreachable refl (give_typed 0 results)))
        (types_then (closes_typed 1 (libraries L) many_libraries) (faults_typed bad_close_error not_closed))

  -- dlerror

  text_typed : {labels : Labels} (e : ℕ) → slice_get c.locals 0 ≡ Some I32 → Types c labels (text_code L e) none none
  text_typed e there = types_then (is_local_typed 0 (e + 1) there) (when_typed unreachable refl (give_typed _ results))

  error_typed : {labels : Labels} → slice_get c.locals 0 ≡ Some I32 → Types c labels (error_call_code L d) none (on_top (I32 ∷ []) none)
  unfolding error_call_code
  error_typed there =
      types_then (one (get_typed c d.error none number_type has.error refl)) (types_then (set_local_typed 0 none there)
      (types_then (one (number_typed c 0 none)) (types_then (one (set_typed c d.error none number_type has.error refl refl))
      (types_then (text_typed 0 there) (types_then (text_typed 1 there) (types_then (text_typed 2 there)
      (types_then (text_typed 3 there) (types_then (text_typed 4 there) (one (number_typed c 0 none))))))))))

-- ---- the bodies

module _ (c : Context) where
  local_at : (types : List ValType) (k : ℕ) (t : ValType) → c.locals ≡ types → slice_get types k ≡ Some t → slice_get c.locals k ≡ Some t
  local_at types k t e q = ap (λ l. slice_get l k) e ∙ q

  ends : (rs : List ValType) (t : Stack) → c.results ≡ rs → ends_with rs t ≡ true → ends_with c.results t ≡ true
  ends rs t e q = ap (λ l. ends_with l t) e ∙ q

module _ (typed : SearchIsTyped) {c : Context} {L : LinkedSet} {x : Starts} {d : Finders} where
  calls_typed : IsSet L.set → HasNamed c L x d → (which : LoaderCall) → HasHeight c (loader_type which) (call_body L x d which)
  calls_typed set has Dlopen locals results =
      let types : List ValType = I32 ∷ I32 ∷ I32 ∷ [] in
      body_typed unreachable (ends c (I32 ∷ []) unreachable results refl)
      (open_typed has results typed set (local_at c types 0 I32 locals refl) (local_at c types 1 I32 locals refl) (local_at c types 2 I32 locals refl))
  calls_typed set has Dlsym locals results =
      let types : List ValType = I32 ∷ I32 ∷ I32 ∷ I64 ∷ I64 ∷ I32 ∷ [] in
      body_typed unreachable (ends c (I32 ∷ []) unreachable results refl)
      (symbol_typed has results set (local_at c types 0 I32 locals refl) (local_at c types 1 I32 locals refl) (local_at c types 2 I32 locals refl) (local_at c types 3 I64 locals refl) (local_at c types 4 I64 locals refl) (local_at c types 5 I32 locals refl))
  calls_typed set has Dlclose locals results =
      body_typed unreachable (ends c (I32 ∷ []) unreachable results refl) (close_typed has results set (local_at c (I32 ∷ []) 0 I32 locals refl))
  calls_typed set has Dlerror locals results =
      body_typed (on_top (I32 ∷ []) none) (ends c (I32 ∷ []) (on_top (I32 ∷ []) none) results refl) (error_typed has results (local_at c (I32 ∷ []) 0 I32 locals refl))

pub length_height : (c : Context) → c.memory ≡ true → HasHeight c unary_type length_body
length_height c memory locals results =
    body_typed (on_top (I32 ∷ []) none) (ends c (I32 ∷ []) (on_top (I32 ∷ []) none) results refl)
    (length_typed memory (local_at c (I32 ∷ I32 ∷ []) 0 I32 locals refl) (local_at c (I32 ∷ I32 ∷ []) 1 I32 locals refl))

pub find_height : BodyIsTyped → (L : LinkedSet) (m : ℕ) (wasm : Module) (c : Context) → c.memory ≡ true → HasHeight c search_type (find_body L m wasm)
find_height typed L m wasm c memory locals results = typed c (name_numbers L m wasm) memory locals results

pub loader_is_typed : SearchIsTyped → BodyIsTyped → LoaderIsTyped
loader_is_typed search body L x d c = record {
  lengths = λ memory. length_height c memory;
  finds = λ memory m wasm. find_height body L m wasm c memory;
  calls = calls_typed search;
}
