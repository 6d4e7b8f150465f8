-- The type of each host function of a set stands at its number among the types of the merged module.
use Rattle.std.proofs.Common.{◌≡◌, ◌≤◌, ℕ, zero, suc, ◌+◌, Bool, true, false, cond, List, [], ◌∷◌, ◌++◌, length, slice_get, nat_eq, find, unwrap_or, Option, Some, None, refl, sym, ap, ◌∙◌, subst, arith}
use Rattle.std.specs.List.{All, flat_map, position_or_len, range_with_len}
use Rattle.std.proofs.lemmas.Bool.{eqb-true}
use Rattle.std.proofs.lemmas.List.Elements.{All-nil, All-cons, All-head, All-tail, All-append}
use Rattle.spec_reading.specs.wasm_form.declared.types.FuncType.{FuncType}
use Rattle.spec_reading.specs.wasm_form.declared.module.Module.{Module}
use Rattle.spec_reading.specs.wasm_form.declared.runtime.Ref.{Ref}
use Rattle.spec_reading.specs.wasm_form.declared.runtime.Ref.TheVariants.{Own, Loader, Host, Stub}
use Rattle.spec_reading.specs.spec_binary.Options.{◌>>=◌}
use Rattle.spec_reading.specs.spec_binary.Indices.{function_type}
use Rattle.spec_reading.specs.spec_binary.IndexSpaces.{imports_of, functions_in, imported_count, function_space}
use Rattle.spec_reading.specs.spec_binary.SameTypes.{same_function_type}
use Rattle.spec_loading.specs.spec_runtime.Names.{HostName}
use Rattle.spec_loading.specs.spec_execution.Views.{type_of}
use Rattle.spec_loading.specs.spec_execution.Instances.{host_type}
use Rattle.spec_loading.specs.spec_linking.Sets.{Member}
use Rattle.spec_loading.specs.spec_linking.Imports.{importing}
use Rattle.spec_loading.specs.spec_linking.LinkedSets.{LinkedSet, wasm_of, hosts_of, ref_with, function_ref}
use Rattle.spec_loading.specs.Members.{from_members, set_view}
use Rattle.spec_loading.proofs.of_spec_safety.Lookups.{went_on}
use Rattle.merge_match.specs.Renumbering.{Numbers}
use Rattle.merge_match.specs.Parts.{nowhere, number_of}
use Rattle.merge_match.specs.Joined.{type_address}
use Rattle.merge_match.proofs.Joined.{joined_read}
use Rattle.merge_start.specs.Words.{Starts}
use Rattle.merge_module.specs.MergedModule.{generated_functions_types, host_use, function_type_number, host_uses, use_among, first_use, added_types, first_added, type_number, host_type_number}
use Rattle.merge_module.proofs.Known.{IsKnown}
use Rattle.merge_module.proofs.Faultless.{all_of}
use Rattle.merge_module.proofs.HostImports.{HasTypes, numbered_types}
use Rattle.merge_module.proofs.AddedTypes.{added_at}
use Rattle.merge_module.proofs.MergedSpaces.{merged, in_front, few_types, added_type_there}

module _ (L : LinkedSet) (K : IsKnown L) (n : Numbers) (x : Starts) where
  abbrev types : List FuncType
  types = (merged L n x).types

  -- the number of a member's type leads to that type
  member_type : (m t : ℕ) → slice_get types (number_of (type_address L m t)) ≡ (wasm_of L m >>= λ w. slice_get w.types t)
  member_type m t =
      let few : length types ≤ nowhere = (let all = few_types L n x K.set in omega arith) in
      joined_read (λ k y. y.types) (λ y. length y.types) (λ k y. refl) L.set.members (generated_functions_types L ++ added_types L) few m t

  -- ---- imported functions that are host functions

  -- a host function and the number of its type
  abbrev IsUse : ℕ × ℕ → Type 0
  IsUse u = (h : HostName) → slice_get (hosts_of L) u.0 ≡ Some h → slice_get types u.1 ≡ Some h.ty

  host_is : (m f e : ℕ) (member : Member) → slice_get L.set.members m ≡ Some member → function_ref L m f ≡ Some (Host e)
      → IsUse (e, function_type_number L m member.wasm f)
  host_is m f e member at r h there =
      let here : wasm_of L m ≡ Some member.wasm = ap (λ (o : Option Member). o >>= λ y. Some y.wasm) at in
      let w = went_on (wasm_of L m) (λ wasm. function_type wasm f >>= λ ty. ref_with L m f (slice_get (importing functions_in wasm.imports) f) (Own m f)) (Host e) r in
      let same : w.0 ≡ member.wasm = (let q = sym w.1 ∙ here in cc) in
      let ty = went_on (function_type w.0 f) (λ ty. ref_with L m f (slice_get (importing functions_in w.0.imports) f) (Own m f)) (Host e) w.2 in
      let has : function_type member.wasm f ≡ Some ty.0 = subst (λ (y : Module). function_type y f ≡ Some ty.0) same ty.1 in
      let typed = K.typed m f member ty.0 at has in
      let is : typed.0 ≡ Host e = (let q = sym typed.1 ∙ r in cc) in
      let given : type_of (set_view L) (Host e) ≡ Some ty.0 = subst (λ (y : Ref). type_of (set_view L) y ≡ Some ty.0) is typed.2 in
      let wanted : Some ty.0 ≡ Some h.ty = sym given ∙ ap host_type there in
      let number = went_on (slice_get (function_space member.wasm) f) (λ t. slice_get member.wasm.types t) ty.0 has in
      ap (λ (o : Option ℕ). slice_get types (number_of (type_address L m (unwrap_or o 0)))) number.1
      ∙ member_type m number.0 ∙ ap (λ (o : Option Module). o >>= λ y. slice_get y.types number.0) here ∙ number.2 ∙ wanted

  member_uses : (m : ℕ) (member : Member) → slice_get L.set.members m ≡ Some member → (a k : ℕ)
      → All IsUse (flat_map (λ f. host_use (function_ref L m f) (function_type_number L m member.wasm f)) (range_with_len a k))
  member_uses m member at a zero = All-nil IsUse
  member_uses m member at a (suc k) =
      All-append IsUse (host_use (function_ref L m a) (function_type_number L m member.wasm a))
      (flat_map (λ f. host_use (function_ref L m f) (function_type_number L m member.wasm f)) (range_with_len (a + 1) k))
      (one (function_ref L m a) refl) (member_uses m member at (a + 1) k)
    where
      one : (o : Option Ref) → function_ref L m a ≡ o → All IsUse (host_use o (function_type_number L m member.wasm a))
      one (Some (Host e)) r = All-cons IsUse (e, function_type_number L m member.wasm a) [] (host_is m a e member at r) (All-nil IsUse)
      one (Some (Own j g)) r = All-nil IsUse
      one (Some (Loader which)) r = All-nil IsUse
      one (Some (Stub j g)) r = All-nil IsUse
      one None r = All-nil IsUse

  all_uses : All IsUse (from_members (host_uses L) 0 L.set.members)
  all_uses =
      all_of IsUse (host_uses L) 0 L.set.members (λ j y at.
      let place : j ≡ 0 + j = omega arith in
      subst (λ m. All IsUse (host_uses L m y.wasm)) place (member_uses j y at 0 (imported_count y.wasm)))

  found_use : (us : List (ℕ × ℕ)) (e t : ℕ) → All IsUse us → use_among us e ≡ Some t → IsUse (e, t)
  found_use [] e t all q = absurd cc
  found_use (u ∷ us) e t all q = go (nat_eq u.0 e) refl q (found_use us e t (All-tail IsUse u us all))
    where
      go : (b : Bool) → nat_eq u.0 e ≡ b → (cond b (Some u) (find (λ (v : ℕ × ℕ). nat_eq v.0 e) us) >>= λ (v : ℕ × ℕ). Some v.1) ≡ Some t
          → (use_among us e ≡ Some t → IsUse (e, t)) → IsUse (e, t)
      go true same given later =
          let first : u.0 ≡ e = eqb-true u.0 e same in
          let number : u.1 ≡ t = cc in
          λ h there. ap (slice_get types) (sym number) ∙ All-head IsUse u us all h (ap (slice_get (hosts_of L)) first ∙ there)
      go false same given later = later given

  -- ---- host functions

  pub host_types : HasTypes (merged L n x) (host_type_number L) 0 (hosts_of L)
  host_types i h at = go (first_use L (0 + i)) refl
    where
      go : (o : Option ℕ) → first_use L (0 + i) ≡ o → slice_get types (type_number (first_added L) (added_types L) o h.ty) ≡ Some h.ty
      go (Some t) q =
          let place : 0 + i ≡ i = omega arith in
          found_use (from_members (host_uses L) 0 L.set.members) (0 + i) t all_uses q h (ap (slice_get (hosts_of L)) place ∙ at)
      go None q =
          added_type_there L n x (position_or_len (same_function_type h.ty) (added_types L)) ∙ added_at (first_use L) [] 0 (hosts_of L) i h at q

  -- a host function by its number
  pub host_typed : (e : ℕ) (h : HostName) → slice_get (hosts_of L) e ≡ Some h → function_type (merged L n x) e ≡ Some h.ty
  host_typed e h at =
      let t = host_type_number L (0 + e) h.ty in
      let number = numbered_types (host_type_number L) 0 (hosts_of L) e h at in
      let there = in_front (imports_of functions_in (merged L n x).imports) (merged L n x).funcs e t number in
      ap (λ (o : Option ℕ). o >>= slice_get types) there ∙ host_types e h at
