-- Each body of the merged module is well typed.
use Rattle.std.proofs.Common.{◌≡◌, ◌≤◌, ℕ, zero, suc, ◌+◌, Bool, true, false, List, [], ◌∷◌, ◌++◌, length, map, slice_get, nat_le, Option, Some, None, option_map, refl, sym, ap, ◌∙◌, subst, arith, length-append, cond}
use Rattle.std.specs.Prelude.{is_some, take, unwrap_or, reverse}
use Rattle.std.specs.List.{filter, range_with_len}
use Rattle.std.proofs.lemmas.Bool.Decides.{nat_tests}
use Rattle.std.proofs.lemmas.List.{length-map}
use Rattle.std.proofs.lemmas.Option.{slice_get-map, slice_get_within}
use Rattle.spec_reading.specs.wasm_form.declared.types.ValType.{ValType}
use Rattle.spec_reading.specs.wasm_form.declared.types.FuncType.{FuncType}
use Rattle.spec_reading.specs.wasm_form.declared.instr.Instr.{roll-Instr}
use Rattle.spec_reading.specs.wasm_form.declared.instr.Instr.TheOpen as Open
use Rattle.spec_reading.specs.wasm_form.declared.module.Code.{Code}
use Rattle.spec_reading.specs.wasm_form.declared.module.Module.{Module}
use Rattle.spec_reading.specs.wasm_form.declared.runtime.Ref.{Ref}
use Rattle.spec_reading.specs.wasm_form.declared.runtime.Ref.TheVariants.{Own, Loader, Host, Stub}
use Rattle.spec_reading.specs.spec_binary.Options.{◌>>=◌}
use Rattle.spec_reading.specs.spec_binary.IndexSpaces.{memory_space, function_space, imported_count}
use Rattle.spec_loading.specs.spec_validation.Context.{Context}
use Rattle.spec_loading.specs.spec_validation.Stacks.{holding, unreachable, begins, ends_with}
use Rattle.spec_loading.specs.spec_validation.Typing.{Meaning, after, height}
use Rattle.spec_loading.specs.spec_validation.Faults.{Finding, first_in, body_context, type_of_body, body_height, body_typed}
use Rattle.spec_loading.specs.spec_validation.declared.fault.CheckFault.TheVariants.{BadBody}
use Rattle.spec_loading.proofs.of_spec_validation.Levels.{after_rolled}
use Rattle.spec_loading.proofs.of_spec_validation.Parts.{body_fits}
use Rattle.spec_loading.specs.spec_linking.Sets.{Member}
use Rattle.spec_loading.specs.spec_linking.LinkedSets.{LinkedSet, wasm_of, hosts_of, function_ref}
use Rattle.spec_loading.specs.spec_linking.Slots.{linked_plan}
use Rattle.spec_loading.specs.Addresses.{sum_before}
use Rattle.spec_loading.specs.Members.{from_members}
use Rattle.merge_match.specs.Renumbering.{Numbers}
use Rattle.merge_match.specs.Joined.{renumbered_code}
use Rattle.merge_match.specs.Laws.{CarriesMember}
use Rattle.merge_match.proofs.JoinedBodies.{bodies_are_typed}
use Rattle.merge_start.specs.Words.{Starts}
use Rattle.merge_index.specs.Numbering.{is_stub, stubs_of}
use Rattle.merge_module.specs.MergedModule.{host_type_number, stub_types, generated_types, stub_codes, trap_code}
use Rattle.merge_module.proofs.Known.{IsKnown}
use Rattle.merge_module.proofs.HostImports.{no_memories}
use Rattle.merge_module.proofs.SetMembers.{is_sound}
use Rattle.merge_module.proofs.References.{stub_there}
use Rattle.merge_module.proofs.StubLists.{member_at}
use Rattle.merge_module.proofs.MergedSpaces.{past_front, in_front, own_funcs, own_codes}
use Rattle.merge_module.proofs.OwnNumbers.{own_funcs_many, own_codes_many}
use Rattle.merge_module.proofs.Joins.{is_joined}
use Rattle.merge_module.proofs.Opens.{N, X, M}
use Rattle.merge_module.proofs.Carries.{function_carried, type_carried, global_carried, table_carried, elem_carried, data_carried}
use Rattle.merge_module.proofs.Refers.{refers_too}
use Rattle.merge_module.proofs.Faultless.{members_none, so_none}

-- ---- lists

-- what the first members have is as much as the sum
taken : {A : Type 0} (of : ℕ → Module → List A) (size : Module → ℕ) → ((m : ℕ) (w : Module) → length (of m w) ≡ size w) → (k : ℕ) (xs : List Member) (j : ℕ)
    → length (from_members of k (take j xs)) ≡ sum_before size xs j
taken of size fits k xs zero = refl
taken of size fits k [] (suc j) = refl
taken of size fits k (x ∷ xs) (suc j) =
    let here = fits k x.wasm in
    let later = taken of size fits (k + 1) xs j in
    omega (arith, length-append (of k x.wasm) (from_members of (k + 1) (take j xs)))

-- an element of a mapped list
pub mapped_there : {A B : Type 0} (f : A → B) (xs : List A) (i : ℕ) (b : B) → slice_get (map f xs) i ≡ Some b → (a : A) × (slice_get xs i ≡ Some a) × (f a ≡ b)
mapped_there f [] i b e = absurd cc
mapped_there f (x ∷ xs) zero b e = (x, refl, cc)
mapped_there f (x ∷ xs) (suc i) b e = mapped_there f xs i b e

pub filter_holds : (test : ℕ → Bool) (xs : List ℕ) (i f : ℕ) → slice_get (filter test xs) i ≡ Some f → test f ≡ true
filter_holds test [] i f e = absurd cc
filter_holds test (x ∷ xs) i f e = go (test x) refl i e (λ j h. filter_holds test xs j f h)
  where
    go : (b : Bool) → test x ≡ b → (i : ℕ) → slice_get (cond b (x ∷ filter test xs) (filter test xs)) i ≡ Some f → ((j : ℕ) → slice_get (filter test xs) j ≡ Some f → test f ≡ true) → test f ≡ true
    go true q zero h later = (let same : x ≡ f = cc in subst (λ k. test k ≡ true) same q)
    go true q (suc j) h later = later j h
    go false q j h later = later j h

-- ---- a trap is well typed, whatever is wanted

begins_loose : (ts : List ValType) → begins ts [] true ≡ true
begins_loose [] = refl
begins_loose (t ∷ ts) = refl

trap_typed : (c : Context) → is_some (height c (roll-Instr (Open.Plain 0) ∷ [])) ≡ true
trap_typed c =
    let ends : ends_with c.results unreachable ≡ true = (let low : nat_le 0 (length c.results) ≡ true = grind (arith, nat_tests) in rw (begins_loose (reverse c.results), low) refl) in
    let is : after c (roll-Instr (Open.Plain 0)) (c.results ∷ []) (holding []) ≡ Some (record { stack = unreachable; high = 0 }) =
    ap (λ (f : Meaning). f (c.results ∷ []) (holding [])) (after_rolled c (Open.Plain 0)) in
    rw (is, ends) refl

pub some_so : {A : Type 0} (o : Option A) (a : A) → o ≡ Some a → is_some o ≡ true
some_so o a e = ap is_some e

some_is : {A : Type 0} (o : Option A) → is_some o ≡ true → (a : A) × (o ≡ Some a)
some_is None e = absurd cc
some_is (Some a) e = (a, refl)

module _ (L : LinkedSet) (K : IsKnown L) (few : (linked_plan L).pages_max ≤ 16384) where
  abbrev n : Numbers
  n = N L K few

  abbrev x : Starts
  x = X L K few

  abbrev merged : Module
  merged = M L K few

  abbrev members : List Member
  members = L.set.members

  pub memory_is : memory_space merged ≡ merged.memories
  memory_is = ap (λ l. l ++ merged.memories) (no_memories (host_type_number L) 0 (hosts_of L))

  pub carries : (m : ℕ) (member : Member) → slice_get members m ≡ Some member → CarriesMember n m member.wasm merged
  carries m member at f c = record {
    types = λ t ty e. type_carried L K few m member at t ∙ e;
    functions = function_carried L K few m member at;
    globals = global_carried L K few m member at;
    tables = table_carried L K few m member at;
    elems = elem_carried L K few m member at;
    memory = λ e. rw memory_is refl;
    datas = data_carried L K few m member at;
    refers = refers_too L K few m member at;
    locals = refl;
    results = refl;
  }

  abbrev pub find : ℕ → Code → Finding
  find = body_typed merged

  pub body_none : (k : ℕ) (c : Code) (ty : FuncType) → type_of_body merged k ≡ Some ty → is_some (height (body_context merged ty c) c.body.list) ≡ true → find k c ≡ None
  body_none k c ty typed high =
      so_none (is_some (body_height merged k c)) (BadBody k)
      (ap (λ (o : Option FuncType). is_some (o >>= λ f. height (body_context merged f c) c.body.list)) typed ∙ high)

  -- ---- bodies of members

  own_body : (m : ℕ) (member : Member) → slice_get members m ≡ Some member → (i : ℕ) (c : Code) → slice_get member.wasm.codes i ≡ Some c
      → find (sum_before (λ y. length y.codes) members m + i) (renumbered_code n m c) ≡ None
  own_body m member at i c there =
      let here : wasm_of L m ≡ Some member.wasm = ap (λ (o : Option Member). o >>= λ y. Some y.wasm) at in
      let high = some_is (body_height member.wasm i c) (body_fits member.wasm (is_sound L m member.wasm K.set here).valid i c there) in
      let kept = bodies_are_typed L n merged (is_joined L K) m member.wasm here (carries m member at) i c there high.0 high.1 in
      so_none (is_some (body_height merged (sum_before (λ y. length y.codes) members m + i) (renumbered_code n m c))) (BadBody _)
      (some_so (body_height merged (sum_before (λ y. length y.codes) members m + i) (renumbered_code n m c)) high.0 kept)

  pub own_none : first_in find 0 (own_codes L n x) ≡ None
  own_none =
      members_none find (λ m wasm. map (renumbered_code n m) wasm.codes) 0 members 0 (λ j y i c at there. (
      let zero_j : 0 + j ≡ j = omega arith in
      let mine : slice_get (map (renumbered_code n j) y.wasm.codes) i ≡ Some c = subst (λ k. slice_get (map (renumbered_code n k) y.wasm.codes) i ≡ Some c) zero_j there in
      let found = mapped_there (renumbered_code n j) y.wasm.codes i c mine in
      let sum = taken (λ m wasm. map (renumbered_code n m) wasm.codes) (λ w. length w.codes) (λ m w. length-map w.codes (renumbered_code n m)) 0 members j in
      let place : sum_before (λ w. length w.codes) members j + i ≡ 0 + (length (from_members (λ m wasm. map (renumbered_code n m) wasm.codes) 0 (take j members)) + i) = omega arith in
      subst (λ k. find k c ≡ None) place (subst (λ d. find (sum_before (λ w. length w.codes) members j + i) d ≡ None) found.2 (own_body j y at i found.0 found.1))))

  -- ---- stubs

  stub_type_there : (m : ℕ) (member : Member) → slice_get members m ≡ Some member → (i f : ℕ) → slice_get (stubs_of L m member.wasm) i ≡ Some f
      → (t : ℕ) × (ty : FuncType) × (slice_get (stub_types L n m member.wasm) i ≡ Some t) × (slice_get merged.types t ≡ Some ty)
  stub_type_there m member at i f e = go (function_ref L m f) refl (filter_holds (λ k. is_stub (function_ref L m k)) (range_with_len 0 (imported_count member.wasm)) i f e)
    where
      g : ℕ → ℕ
      g k = n.ty m (unwrap_or (slice_get (function_space member.wasm) k) 0)

      go : (o : Option Ref) → function_ref L m f ≡ o → is_stub o ≡ true → (t : ℕ) × (ty : FuncType) × (slice_get (stub_types L n m member.wasm) i ≡ Some t) × (slice_get merged.types t ≡ Some ty)
      go None q h = absurd cc
      go (Some (Own a b)) q h = absurd cc
      go (Some (Loader call)) q h = absurd cc
      go (Some (Host a)) q h = absurd cc
      go (Some (Stub a b)) q h =
          let there = (stub_there L m f a b q).1 in
          let here : wasm_of L m ≡ Some member.wasm = ap (λ (o : Option Member). o >>= λ y. Some y.wasm) at in
          let same : there.wasm ≡ member.wasm = (let one = sym there.here ∙ here in cc) in
          let space : slice_get (function_space member.wasm) f ≡ Some there.number = subst (λ (w : Module). slice_get (function_space w) f ≡ Some there.number) same there.space in
          let typed : slice_get member.wasm.types there.number ≡ Some there.ty = subst (λ (w : Module). slice_get w.types there.number ≡ Some there.ty) same there.typed in
          let mapped : slice_get (stub_types L n m member.wasm) i ≡ Some (g f) = slice_get-map g (stubs_of L m member.wasm) i ∙ ap (option_map g) e in
          let value : g f ≡ n.ty m there.number = ap (λ (o : Option ℕ). n.ty m (unwrap_or o 0)) space in
          (n.ty m there.number, there.ty, mapped ∙ ap Some value, type_carried L K few m member at there.number ∙ typed)

  pub stubs_none : first_in find (0 + length (own_codes L n x)) (from_members (stub_codes L) 0 members) ≡ None
  stubs_none =
      members_none find (stub_codes L) 0 members (0 + length (own_codes L n x)) (λ j y i c at there. (
      let zero_j : 0 + j ≡ j = omega arith in
      let mine : slice_get (stub_codes L j y.wasm) i ≡ Some c = subst (λ k. slice_get (stub_codes L k y.wasm) i ≡ Some c) zero_j there in
      let found = mapped_there (λ f. trap_code) (stubs_of L j y.wasm) i c mine in
      let types = stub_type_there j y at i found.0 found.1 in
      let k = length (from_members (stub_codes L) 0 (take j members)) + i in
      let lt = slice_get_within (stub_types L n j y.wasm) i types.0 types.2 in
      let listed : slice_get (from_members (stub_types L n) 0 members) k ≡ Some types.0 =
      member_at (stub_types L n) (stub_codes L) (λ m w. length-map (stubs_of L m w) _ ∙ sym (length-map (stubs_of L m w) (λ f. trap_code))) 0 members j j y i at (omega arith) lt ∙ types.2 in
      let own = own_funcs_many L K.set in
      let codes = own_codes_many L K.set in
      let place : 0 + length (own_codes L n x) + k ≡ length (own_funcs L n x) + k = omega arith in
      let func : slice_get merged.funcs (0 + length (own_codes L n x) + k) ≡ Some types.0 =
      ap (slice_get merged.funcs) place ∙ past_front (own_funcs L n x) (from_members (stub_types L n) 0 members ++ generated_types L) k
      ∙ in_front (from_members (stub_types L n) 0 members) (generated_types L) k types.0 listed in
      let typed : type_of_body merged (0 + length (own_codes L n x) + k) ≡ Some types.1 = ap (λ (o : Option ℕ). o >>= slice_get merged.types) func ∙ types.3 in
      subst (λ d. find (0 + length (own_codes L n x) + k) d ≡ None) found.2
      (body_none (0 + length (own_codes L n x) + k) trap_code types.1 typed (trap_typed (body_context merged types.1 trap_code)))))
