-- The globals of the merged module begin with what those of the store begin with, by the numbers, and its guards with 0.
use Rattle.std.proofs.Common.{◌≡◌, ℕ, ◌+◌, ◌^◌, ◌<◌, ◌≤◌, true, List, [], ◌∷◌, ◌++◌, map, slice_get, Option, Some, refl, sym, ap, ap₂, ◌∙◌, arith, subst}
use Rattle.std.specs.Prelude.{Bool, false, unwrap_or}
use Rattle.std.specs.List.{All, list_all}
use Rattle.std.proofs.lemmas.Bool.{and_parts}
use Rattle.std.proofs.lemmas.List.{map-append}
use Rattle.std.proofs.lemmas.List.Elements.{All-head, All-tail}
use Rattle.spec_reading.specs.wasm_form.declared.types.ValType.TheVariants.{I32}
use Rattle.spec_reading.specs.wasm_form.declared.module.GlobalDef.{GlobalDef}
use Rattle.spec_reading.specs.wasm_form.declared.module.Module.{Module}
use Rattle.spec_reading.specs.wasm_form.declared.runtime.Ref.{Ref}
use Rattle.spec_reading.specs.wasm_form.declared.runtime.Value.{Value}
use Rattle.spec_reading.specs.wasm_form.declared.runtime.Value.TheVariants.{Num}
use Rattle.spec_reading.proofs.of_spec_binary.Lists.{holds_at}
use Rattle.spec_loading.specs.spec_validation.Faults.{global_fits}
use Rattle.spec_loading.proofs.of_spec_validation.Parts.{parts_fit}
use Rattle.spec_loading.specs.spec_execution.Values.{zero_of}
use Rattle.spec_loading.specs.spec_execution.Instances.{module_target, global_value}
use Rattle.spec_loading.specs.spec_linking.Sets.{Member}
use Rattle.spec_loading.specs.spec_linking.Gathering.{IsMember}
use Rattle.spec_loading.specs.spec_linking.LinkedSets.{LinkedSet}
use Rattle.spec_loading.specs.spec_linking.Slots.{linked_plan, memory_base, table_base, CellName, cells_of, cell_value}
use Rattle.spec_loading.specs.Members.{opened_global, opened_globals, opening_store, from_members}
use Rattle.merge_match.specs.Renumbering.{Numbers, reference, value}
use Rattle.merge_module.specs.MergedModule.{with_loader, number_global, own_global, member_globals, zero_globals, loader_globals, guard_globals, merged_globals}
use Rattle.merge_module.proofs.Known.{IsKnown}
use Rattle.merge_module.proofs.WithLoader.{with_map}
use Rattle.merge_index.proofs.FewItems.{member_spelled}
use Rattle.merge_module.proofs.SpelledConstants.{Fit, constants_fit}
use Rattle.merge_module.proofs.PlannedWords.{stack_within}
use Rattle.merge_module.proofs.Slots.{cell_word, base_word, table_base_word}
use Rattle.merge_module.proofs.GlobalValues.{IsNamed, opened_is}
use Rattle.merge_module.proofs.Constants.{number_value, value_kept}
use Rattle.merge_module.proofs.OpenedItems.{members_mapped}

-- a zero for each member
abbrev pub zeros : LinkedSet → List Value
zeros L = map (λ m. Num 0) L.set.members

-- the error, how many members are promoted, and their places
abbrev pub loader_zeros : LinkedSet → List Value
loader_zeros L = Num 0 ∷ Num 0 ∷ zeros L

module _ (L : LinkedSet) (K : IsKnown L) (few : (linked_plan L).pages_max ≤ 16384) (n : Numbers) (merged : Module)
    (targets : (r : Ref) → IsNamed L r → module_target merged (n.function r) ≡ Some (reference n r)) where
  number_opened : (may : Bool) (k : ℕ) → k < 2 ^ 32 → global_value merged (number_global may k) ≡ Num k
  number_opened may k lt = ap (λ (o : Option Value). unwrap_or o (zero_of I32)) (number_value merged k lt)

  -- ---- a member

  cells_opened : (m : ℕ) (cs : List CellName) → map (global_value merged) (map (λ c. number_global true (cell_value L m c)) cs) ≡ map (value n) (map (λ c. Num (cell_value L m c)) cs)
  cells_opened m [] = refl
  cells_opened m (c ∷ cs) = (let here = number_opened true (cell_value L m c) (cell_word L K.links few m c) in let rest = cells_opened m cs in cc)

  module _ (m : ℕ) (member : Member) (at : slice_get L.set.members m ≡ Some member) where
    own_opened : (gs : List GlobalDef) → list_all (global_fits member.wasm) gs ≡ true → All (λ (g : GlobalDef). Fit g.init.list) gs
        → map (global_value merged) (map (own_global L n m) gs) ≡ map (value n) (map (opened_global L m) gs)
    own_opened [] fits fit = refl
    own_opened (g ∷ gs) fits fit =
        let both = and_parts (global_fits member.wasm g) (list_all (global_fits member.wasm) gs) fits in
        let is = opened_is L K few m member at g both.0 (All-head (λ (y : GlobalDef). Fit y.init.list) g gs fit) in
        let here : global_value merged (own_global L n m g) ≡ value n (opened_global L m g) =
        ap (λ (o : Option Value). unwrap_or o (zero_of g.ty.value)) (value_kept merged L n targets g.ty.value (opened_global L m g) is) in
        let rest = own_opened gs both.1 (All-tail (λ (y : GlobalDef). Fit y.init.list) g gs fit) in
        cc

    member_opened : map (global_value merged) (member_globals L n m member.wasm) ≡ map (value n) (opened_globals L m member.wasm)
    member_opened =
        let is = holds_at IsMember L.set.members m member K.set.members at in
        let cells = map (λ c. number_global true (cell_value L m c)) (cells_of member.wasm) in
        let memory = number_opened false (unwrap_or (memory_base L m) 0) (base_word L K.links few m) in
        let table = number_opened false (unwrap_or (table_base L m) 0) (table_base_word L K.links m) in
        let rest : map (global_value merged) (cells ++ map (own_global L n m) member.wasm.globals) ≡ map (value n) (map (λ c. Num (cell_value L m c)) (cells_of member.wasm) ++ map (opened_global L m) member.wasm.globals) =
        map-append (global_value merged) cells (map (own_global L n m) member.wasm.globals)
        ∙ ap₂ (λ a b. a ++ b) (cells_opened m (cells_of member.wasm)) (own_opened member.wasm.globals (parts_fit member.wasm is.read.valid).globals (constants_fit member.wasm member.size (member_spelled member is)).globals)
        ∙ sym (map-append (value n) (map (λ c. Num (cell_value L m c)) (cells_of member.wasm)) (map (opened_global L m) member.wasm.globals)) in
        cc

  -- ---- all

  zeros_opened : (xs : List Member) → map (global_value merged) (map (λ m. number_global true 0) xs) ≡ map (λ m. Num 0) xs
  zeros_opened [] = refl
  zeros_opened (y ∷ ys) = (let here = number_opened true 0 (omega arith) in let rest = zeros_opened ys in cc)

  -- those of the loader, where there are any
  loader_opened : map (global_value merged) (with_loader L (loader_globals L)) ≡ with_loader L (loader_zeros L)
  loader_opened =
      let zero = number_opened true 0 (omega arith) in
      let rest = zeros_opened L.set.members in
      let all : map (global_value merged) (loader_globals L) ≡ loader_zeros L = cc in
      with_map L (global_value merged) (loader_globals L) ∙ ap (with_loader L) all

  all_guards_opened : map (global_value merged) (guard_globals L) ≡ zeros L ++ with_loader L (loader_zeros L)
  all_guards_opened =
      map-append (global_value merged) (zero_globals L) (with_loader L (loader_globals L))
      ∙ ap₂ (λ a b. a ++ b) (zeros_opened L.set.members) loader_opened

  pub globals_opened : map (global_value merged) (merged_globals L n) ≡ map (value n) (opening_store L).globals ++ (zeros L ++ with_loader L (loader_zeros L))
  globals_opened =
      let all = members_mapped (global_value merged) (value n) (member_globals L n) (opened_globals L) 0 L.set.members
      (λ i y at. (let place : i ≡ 0 + i = omega arith in subst (λ m. map (global_value merged) (member_globals L n m y.wasm) ≡ map (value n) (opened_globals L m y.wasm)) place (member_opened i y at))) in
      let stack = stack_within L K.links few in
      let first = number_opened true (linked_plan L).stack_top (omega arith) in
      let rest : map (global_value merged) (from_members (member_globals L n) 0 L.set.members ++ guard_globals L)
      ≡ map (value n) (from_members (opened_globals L) 0 L.set.members) ++ (zeros L ++ with_loader L (loader_zeros L)) =
      map-append (global_value merged) (from_members (member_globals L n) 0 L.set.members) (guard_globals L) ∙ ap₂ (λ a b. a ++ b) all all_guards_opened in
      ap₂ (λ a l. a ∷ l) first rest
