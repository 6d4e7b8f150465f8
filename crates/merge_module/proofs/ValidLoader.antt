-- The bodies of the functions of the loader, and of what they call, are well typed in the merged module, and so all its bodies are.
use Rattle.std.proofs.Common.{◌≡◌, ◌≤◌, ◌<◌, ℕ, suc, ◌+◌, ◌*◌, true, List, [], ◌∷◌, ◌++◌, length, slice_get, Some, None, refl, subst, arith}
use Rattle.std.proofs.lemmas.Option.{slice_get_within}
use Rattle.spec_reading.specs.wasm_form.declared.types.FuncType.{FuncType}
use Rattle.spec_reading.specs.wasm_form.declared.module.Code.{Code}
use Rattle.spec_reading.specs.wasm_form.declared.module.Module.{Module}
use Rattle.spec_reading.specs.wasm_form.declared.runtime.LoaderCall.{LoaderCall}
use Rattle.spec_reading.specs.wasm_form.declared.runtime.LoaderCall.TheVariants.{Dlopen, Dlsym, Dlclose, Dlerror}
use Rattle.spec_reading.specs.spec_binary.Indices.{function_type, function_with}
use Rattle.spec_loading.specs.spec_validation.Typing.{height}
use Rattle.spec_loading.specs.spec_validation.Faults.{first_in, body_context, type_of_body, body_typed}
use Rattle.spec_loading.specs.spec_execution.Views.{loader_type}
use Rattle.spec_loading.specs.spec_linking.Sets.{Member}
use Rattle.spec_loading.specs.spec_linking.LinkedSets.{LinkedSet}
use Rattle.spec_loading.specs.spec_linking.Slots.{linked_plan}
use Rattle.spec_loading.proofs.of_spec_safety.Lookups.{got}
use Rattle.spec_loading.specs.Phases.{open_frame}
use Rattle.spec_loading.specs.Members.{from_members, uses_loader}
use Rattle.merge_match.specs.Renumbering.{Numbers}
use Rattle.merge_start.specs.Words.{Starts, entry_code, open_code}
use Rattle.merge_start.specs.Typed.{GeneratedIsTyped}
use Rattle.dyl_addresses.proofs.Ranges.{of_open}
use Rattle.merge_dl.specs.Words.{Finders, handle_type, unary_type, search_type, length_body, find_body, call_body}
use Rattle.merge_dl.specs.Ready.{HasFunction}
use Rattle.merge_dl.specs.Typed.{HasHeight, HasNamed, LoaderIsTyped}
use Rattle.merge_module.specs.MergedModule.{with_loader, handle_number, unary_number, binary_number, search_number, loader_funcs, stub_codes, plain_code, phase_codes, finders_of, open_codes, find_codes, call_codes, loader_codes}
use Rattle.merge_module.proofs.Known.{IsKnown}
use Rattle.merge_module.proofs.WithLoader.{with_either}
use Rattle.merge_module.proofs.References.{function_typed}
use Rattle.merge_module.proofs.MergedSpaces.{own_codes, phases_many}
use Rattle.merge_module.proofs.LoaderFunctions.{loader_listed, handle_there, unary_there, binary_there, search_there, open_listed, open_there, open_codes_many, behind_listed, length_there, find_listed, find_there, find_codes_many, last_listed}
use Rattle.merge_module.proofs.Opens.{N, X, M}
use Rattle.merge_module.proofs.ValidBodies.{memory_is, find, body_none, some_so, own_none, stubs_none}
use Rattle.merge_module.proofs.ValidGenerated.{start, generated_type, guard_typed, error_typed, promoted_typed, tasks_typed, phases_none, entry_none}
use Rattle.merge_module.proofs.Faultless.{none_append, both_none, singles_none}

module _ (L : LinkedSet) (K : IsKnown L) (few : (linked_plan L).pages_max ≤ 16384) (typing : GeneratedIsTyped) (loader_typing : LoaderIsTyped) where
  abbrev n : Numbers
  n = N L K few

  abbrev x : Starts
  x = X L K few

  abbrev d : Finders
  d = finders_of L x

  abbrev merged : Module
  merged = M L K few

  abbrev members : List Member
  members = L.set.members

  abbrev count : ℕ
  count = length members

  -- ---- what their code names

  function_is : (f : ℕ) (ty : FuncType) (c : Code) → HasFunction merged f ty c → function_type merged f ≡ Some ty
  function_is f ty c there = function_typed merged f (function_with ty c) there.code

  module _ (used : uses_loader L ≡ true) where
    has_named : (ty : FuncType) (c : Code) → HasNamed (body_context merged ty c) L x d
    has_named ty c = record {
      memory = rw (memory_is L K few) refl;
      error = error_typed L K few typing used;
      promoted = promoted_typed L K few typing used;
      guards = guard_typed L K few typing;
      lengths = function_is d.length unary_type length_body (length_there L K.set used);
      finds = λ m lt. (let y = got members m lt in function_is (d.find m) search_type (find_body L m y.0.wasm) (find_there L K.set used m y.0 y.1));
      opens = λ m lt. (let y = got members m lt in function_is (x.opening m) handle_type (plain_code (open_code L n x m)) (open_there L K.set used m y.0 y.1));
    }

    -- ---- the j-th of them

    abbrev first : ℕ
    first = start L K few typing + length (from_members (phase_codes L n x) 0 members)

    is_typed : (j t : ℕ) (ty : FuncType) (c : Code) → slice_get (loader_funcs L) j ≡ Some t → slice_get merged.types t ≡ Some ty → HasHeight (body_context merged ty c) ty c
        → find L K few (first + j) c ≡ None
    is_typed j t ty c listed there high =
        let phases = phases_many L n x members 0 in
        let place : start L K few typing + (4 * count + j) ≡ first + j = omega arith in
        let typed : type_of_body merged (first + j) ≡ Some ty =
        subst (λ k. type_of_body merged k ≡ Some ty) place (generated_type L K few typing (4 * count + j) t ty (loader_listed L K.set used j t listed) there) in
        let h = high refl refl in
        body_none L K few (first + j) c ty typed (some_so (height (body_context merged ty c) c.body.list) h.0 h.1)

    open_none : (m : ℕ) → m < count → find L K few (first + m) (plain_code (open_code L n x m)) ≡ None
    open_none m lt =
        let code = plain_code (open_code L n x m) in
        is_typed m (handle_number L) handle_type code (open_listed L K.set used m lt) (handle_there L K.set used)
        (λ locals results. (typing L n x (body_context merged handle_type code)).opens results m (tasks_typed L K few typing handle_type code (open_frame L.set m).tasks (of_open L K.set m lt)))

    opens_none : first_in (find L K few) first (open_codes L n x) ≡ None
    opens_none =
        singles_none (find L K few) (λ m wasm. plain_code (open_code L n x m)) 0 members first (λ j y at.
        let zero_j : j ≡ 0 + j = omega arith in
        subst (λ m. find L K few (first + j) (plain_code (open_code L n x m)) ≡ None) zero_j (open_none j (slice_get_within members j y at)))

    abbrev second : ℕ
    second = first + length (open_codes L n x)

    length_none : find L K few second length_body ≡ None
    length_none =
        let many = open_codes_many L K.set used in
        let place : first + (count + 0) ≡ second = omega arith in
        subst (λ k. find L K few k length_body ≡ None) place
        (is_typed (count + 0) (unary_number L) unary_type length_body (behind_listed L K.set used 0) (unary_there L K.set used)
        ((loader_typing L x d (body_context merged unary_type length_body)).lengths (has_named unary_type length_body).memory))

    finds_none : first_in (find L K few) (second + 1) (find_codes L) ≡ None
    finds_none =
        singles_none (find L K few) (find_body L) 0 members (second + 1) (λ j y at.
        let zero_j : j ≡ 0 + j = omega arith in
        let many = open_codes_many L K.set used in
        let place : first + (count + suc j) ≡ second + 1 + j = omega arith in
        let code = find_body L j y.wasm in
        let lt = slice_get_within members j y at in
        subst (λ m. find L K few (second + 1 + j) (find_body L m y.wasm) ≡ None) zero_j (subst (λ k. find L K few k code ≡ None) place
        (is_typed (count + suc j) (search_number L) search_type code (find_listed L K.set used j lt) (search_there L K.set used)
        ((loader_typing L x d (body_context merged search_type code)).finds (has_named search_type code).memory j y.wasm))))

    abbrev third : ℕ
    third = second + 1 + length (find_codes L)

    call_none : (which : LoaderCall) (j t : ℕ) → slice_get (loader_funcs L) (count + suc (count + j)) ≡ Some t → slice_get merged.types t ≡ Some (loader_type which)
        → find L K few (third + j) (call_body L x d which) ≡ None
    call_none which j t listed there =
        let many = open_codes_many L K.set used in
        let more = find_codes_many L K.set used in
        let place : first + (count + suc (count + j)) ≡ third + j = omega arith in
        let code = call_body L x d which in
        subst (λ k. find L K few k code ≡ None) place
        (is_typed (count + suc (count + j)) t (loader_type which) code listed there
        ((loader_typing L x d (body_context merged (loader_type which) code)).calls K.set (has_named (loader_type which) code) which))

    calls_none : first_in (find L K few) third (call_codes L x) ≡ None
    calls_none =
        let zero_is : third + 0 ≡ third = omega arith in
        let two : third + 2 ≡ third + 1 + 1 = omega arith in
        let three : third + 3 ≡ third + 1 + 1 + 1 = omega arith in
        let a = subst (λ k. find L K few k (call_body L x d Dlopen) ≡ None) zero_is (call_none Dlopen 0 (binary_number L) (last_listed L K.set used 0) (binary_there L K.set used)) in
        let b = call_none Dlsym 1 (binary_number L) (last_listed L K.set used 1) (binary_there L K.set used) in
        let c = subst (λ k. find L K few k (call_body L x d Dlclose) ≡ None) two (call_none Dlclose 2 (unary_number L) (last_listed L K.set used 2) (unary_there L K.set used)) in
        let e = subst (λ k. find L K few k (call_body L x d Dlerror) ≡ None) three (call_none Dlerror 3 (handle_number L) (last_listed L K.set used 3) (handle_there L K.set used)) in
        both_none (find L K few third (call_body L x d Dlopen)) _ a (both_none (find L K few (third + 1) (call_body L x d Dlsym)) _ b
        (both_none (find L K few (third + 1 + 1) (call_body L x d Dlclose)) _ c (both_none (find L K few (third + 1 + 1 + 1) (call_body L x d Dlerror)) None e refl)))

    loader_none : first_in (find L K few) first (loader_codes L n x) ≡ None
    loader_none =
        none_append (find L K few) first (open_codes L n x) (length_body ∷ (find_codes L ++ call_codes L x)) opens_none
        (both_none (find L K few second length_body) (first_in (find L K few) (second + 1) (find_codes L ++ call_codes L x)) length_none
        (none_append (find L K few) (second + 1) (find_codes L) (call_codes L x) finds_none calls_none))

  -- ---- all bodies

  pub bodies_none : first_in (body_typed merged) 0 merged.codes ≡ None
  bodies_none =
      let phases = from_members (phase_codes L n x) 0 members in
      let last = plain_code (entry_code L n x) in
      let loader = with_loader L (loader_codes L n x) in
      let at = start L K few typing + length phases in
      none_append (body_typed merged) 0 (own_codes L n x) _ (own_none L K few)
      (none_append (body_typed merged) (0 + length (own_codes L n x)) (from_members (stub_codes L) 0 members) _ (stubs_none L K few)
      (none_append (body_typed merged) (start L K few typing) phases (loader ++ last ∷ []) (phases_none L K few typing)
      (none_append (body_typed merged) at loader (last ∷ []) (with_either L (λ l. first_in (find L K few) at l ≡ None) (loader_codes L n x) refl loader_none)
      (both_none (find L K few (at + length loader) last) None (entry_none L K few typing) refl))))
