-- The functions of members, and stubs, have their types and bodies at their numbers in the merged module.
use Rattle.std.proofs.Common.{◌≡◌, ℕ, ◌+◌, ◌-◌, ◌<◌, List, ◌++◌, length, map, slice_get, Option, Some, refl, sym, ap, ◌∙◌, subst, arith}
use Rattle.std.specs.Prelude.{unwrap_or}
use Rattle.std.proofs.lemmas.Bool.{lt-ltb, le-ltb}
use Rattle.std.proofs.lemmas.List.{length-map}
use Rattle.std.proofs.lemmas.Option.{slice_get-map, slice_get_within}
use Rattle.spec_reading.specs.wasm_form.declared.module.Code.{Code}
use Rattle.spec_reading.specs.wasm_form.declared.module.Module.{Module}
use Rattle.spec_reading.specs.wasm_form.declared.runtime.Ref.TheVariants.{Own, Stub}
use Rattle.spec_reading.specs.spec_binary.Options.{◌>>=◌}
use Rattle.spec_reading.specs.spec_binary.Indices.{function_type, function_at}
use Rattle.spec_reading.specs.spec_binary.IndexSpaces.{imported_count, function_space}
use Rattle.spec_loading.specs.spec_linking.Sets.{Member}
use Rattle.spec_loading.specs.spec_linking.Gathering.{IsSet}
use Rattle.spec_loading.specs.spec_linking.LinkedSets.{LinkedSet, wasm_of, hosts_of, function_ref}
use Rattle.spec_loading.specs.Addresses.{sum_before}
use Rattle.spec_loading.specs.Members.{from_members}
use Rattle.spec_loading.proofs.of_spec_safety.Lookups.{went_on}
use Rattle.merge_match.specs.Renumbering.{Numbers}
use Rattle.merge_match.specs.Parts.{number_of}
use Rattle.merge_match.specs.Following.{trapping}
use Rattle.merge_match.specs.Joined.{renumbered_code, own_address}
use Rattle.merge_match.proofs.Joined.{sums_same, item_there, joined_read}
use Rattle.merge_match.proofs.JoinedParts.{own_type}
use Rattle.merge_start.specs.Words.{Starts}
use Rattle.merge_index.specs.Numbering.{sum_of, host_count, is_stub, stubs_below, stubs_of, stubs_before, function_number, numbers_of, starts_of}
use Rattle.merge_module.specs.MergedModule.{stub_types, generated_types, stub_codes, trap_code, merged_module}
use Rattle.merge_module.proofs.SetMembers.{is_sound}
use Rattle.merge_module.proofs.StubLists.{filtered_at, member_at}
use Rattle.merge_index.proofs.Counted.{joined_length}
use Rattle.merge_module.proofs.MergedSpaces.{past_front, in_front, own_funcs, own_codes, type_at, code_at, few_types, few_funcs}
use Rattle.merge_module.proofs.References.{StubThere, IsDefined}

module _ (L : LinkedSet) (set : IsSet L.set) where
  abbrev pub n : Numbers
  n = numbers_of L

  abbrev pub x : Starts
  x = starts_of L

  abbrev pub merged : Module
  merged = merged_module L

  abbrev pub members : List Member
  members = L.set.members

  -- each member has as many bodies as functions
  abbrev codes_before : ℕ → ℕ
  codes_before m = sum_before (λ y. length y.codes) members m

  pub sums_are : (m : ℕ) → sum_before (λ y. length y.funcs) members m ≡ codes_before m
  sums_are m =
      sums_same (λ y. length y.funcs) (λ y. length y.codes) members m
      (λ k y e. (let sound = is_sound L k y.wasm set (ap (λ (o : Option Member). o >>= λ z. Some z.wasm) e) in sym sound.bodies))

  pub own_funcs_many : length (own_funcs L n x) ≡ sum_of (λ y. length y.codes) L
  own_funcs_many =
      joined_length (λ m wasm. map (n.ty m) wasm.funcs) (λ y. length y.funcs) (λ m wasm. length-map wasm.funcs (n.ty m)) 0 members
      ∙ sums_are (length members)

  pub own_codes_many : length (own_codes L n x) ≡ sum_of (λ y. length y.codes) L
  own_codes_many =
      joined_length (λ m wasm. map (renumbered_code n m) wasm.codes) (λ y. length y.codes) (λ m wasm. length-map wasm.codes (renumbered_code n m)) 0 members

  -- ---- types

  pub type_read : (m t : ℕ) → slice_get merged.types (n.ty m t) ≡ (wasm_of L m >>= λ w. slice_get w.types t)
  type_read m t =
      let few = few_types L n x set in
      joined_read (λ k y. y.types) (λ y. length y.types) (λ k y. refl) members _ (omega arith) m t

  -- ---- functions of members

  module _ (m g : ℕ) (w : Module) (here : wasm_of L m ≡ Some w) (defined : IsDefined w g) where
    abbrev i : ℕ
    i = g - imported_count w

    pub inside : i < length w.codes
    inside = slice_get_within w.codes i defined.code defined.at

    pub own_number : function_number L (Own m g) ≡ length (hosts_of L) + (codes_before m + i)
    own_number =
        ap (λ (o : Option Module). number_of (o >>= λ y. own_address L (host_count L) m y g)) here
        ∙ rw (le-ltb g (imported_count w) defined.past, lt-ltb i (length w.codes) inside) (omega arith)

    pub own_typed : function_type merged (function_number L (Own m g)) ≡ Some defined.ty
    own_typed =
        let few = few_funcs L n x set in
        let bodies = (is_sound L m w set here).bodies in
        let lt = inside in
        let there : slice_get merged.funcs (codes_before m + i) ≡ slice_get (map (n.ty m) w.funcs) i =
        ap (λ k. slice_get merged.funcs (k + i)) (sym (sums_are m))
        ∙ item_there (λ k y. map (n.ty k) y.funcs) (λ y. length y.funcs) (λ k y. length-map y.funcs (n.ty k)) members _ (omega arith) m i w here (omega arith) in
        let place : imported_count w + i ≡ g = (let past = defined.past in omega arith) in
        let own : (slice_get w.funcs i >>= slice_get w.types) ≡ Some defined.ty = sym (own_type w i) ∙ ap (function_type w) place ∙ defined.typed in
        let t = went_on (slice_get w.funcs i) (slice_get w.types) defined.ty own in
        type_at L n x (function_number L (Own m g)) (codes_before m + i) own_number
        ∙ ap (λ (o : Option ℕ). o >>= slice_get merged.types) (there ∙ slice_get-map (n.ty m) w.funcs i)
        ∙ rw t.1 (type_read m t.0 ∙ ap (λ (o : Option Module). o >>= λ y. slice_get y.types t.0) here ∙ t.2)

  -- ---- stubs

  module _ (m f a b : ℕ) (e : function_ref L m f ≡ Some (Stub a b)) (there : StubThere L m f) (member : Member) (at : slice_get members m ≡ Some member)
      (is : member.wasm ≡ there.wasm) where
    abbrev j : ℕ
    j = length (stubs_below L m f)

    pub stub_number : function_number L (Stub m f) ≡ length (hosts_of L) + (sum_of (λ y. length y.codes) L + (stubs_before L m + j))
    stub_number = rw e (omega arith)

    stub_listed : slice_get (stubs_of L m member.wasm) j ≡ Some f
    stub_listed =
        let below : f < imported_count member.wasm = subst (λ (w : Module). f < imported_count w) (sym is) there.below in
        filtered_at (λ k. is_stub (function_ref L m k)) 0 (imported_count member.wasm) f below (ap is_stub (ap (function_ref L m) (omega arith) ∙ e)) ∙ ap Some (omega arith)

    j_inside : j < length (stubs_of L m member.wasm)
    j_inside = slice_get_within (stubs_of L m member.wasm) j f stub_listed

    type_listed : slice_get (from_members (stub_types L n) 0 members) (stubs_before L m + j) ≡ Some (n.ty m there.number)
    type_listed =
        let g : ℕ → ℕ = λ k. n.ty m (unwrap_or (slice_get (function_space member.wasm) k) 0) in
        let many = length-map (stubs_of L m member.wasm) g in
        let lt = j_inside in
        let space : slice_get (function_space member.wasm) f ≡ Some there.number = ap (λ (w : Module). slice_get (function_space w) f) is ∙ there.space in
        member_at (stub_types L n) (stubs_of L) (λ k w. length-map (stubs_of L k w) (λ h. n.ty k (unwrap_or (slice_get (function_space w) h) 0))) 0 members m m member j at (omega arith) (omega arith)
        ∙ slice_get-map g (stubs_of L m member.wasm) j
        ∙ rw (stub_listed, space) refl

    code_listed : slice_get (from_members (stub_codes L) 0 members) (stubs_before L m + j) ≡ Some (trap_code)
    code_listed =
        let g : ℕ → Code = λ k. trap_code in
        let many = length-map (stubs_of L m member.wasm) g in
        let lt = j_inside in
        member_at (stub_codes L) (stubs_of L) (λ k w. length-map (stubs_of L k w) (λ h. trap_code)) 0 members m m member j at (omega arith) (omega arith)
        ∙ slice_get-map g (stubs_of L m member.wasm) j
        ∙ rw stub_listed refl

    pub stub_typed : function_type merged (function_number L (Stub m f)) ≡ Some there.ty
    stub_typed =
        let k = sum_of (λ y. length y.codes) L + (stubs_before L m + j) in
        let own = own_funcs_many in
        let place : k ≡ length (own_funcs L n x) + (stubs_before L m + j) = omega arith in
        let listed = in_front (from_members (stub_types L n) 0 members) (generated_types L) (stubs_before L m + j) (n.ty m there.number) type_listed in
        let func : slice_get merged.funcs k ≡ Some (n.ty m there.number) =
        ap (slice_get merged.funcs) place ∙ past_front (own_funcs L n x) (from_members (stub_types L n) 0 members ++ generated_types L) (stubs_before L m + j) ∙ listed in
        type_at L n x (function_number L (Stub m f)) k stub_number
        ∙ ap (λ (o : Option ℕ). o >>= slice_get merged.types) func
        ∙ type_read m there.number ∙ ap (λ (o : Option Module). o >>= λ y. slice_get y.types there.number) there.here ∙ there.typed

    pub stub_at : function_at merged (function_number L (Stub m f)) ≡ Some (trapping there.ty)
    stub_at =
        let k = sum_of (λ y. length y.codes) L + (stubs_before L m + j) in
        let own = own_codes_many in
        let place : k ≡ length (own_codes L n x) + (stubs_before L m + j) = omega arith in
        let listed = in_front (from_members (stub_codes L) 0 members) _ (stubs_before L m + j) (trap_code) code_listed in
        let code : slice_get merged.codes k ≡ Some (trap_code) =
        ap (slice_get merged.codes) place ∙ past_front (own_codes L n x) _ (stubs_before L m + j) ∙ listed in
        code_at L n x (function_number L (Stub m f)) k (trap_code) there.ty stub_number code stub_typed
