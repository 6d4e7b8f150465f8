-- How much the globals of the merged module weigh, and how many tables it has.
use Rattle.std.proofs.Common.{◌≡◌, ℕ, ◌+◌, ◌*◌, ◌≤◌, true, false, List, [], ◌∷◌, ◌++◌, length, map, refl, arith, length-append}
use Rattle.std.specs.Prelude.{unwrap_or}
use Rattle.spec_reading.specs.wasm_form.declared.module.GlobalDef.{GlobalDef}
use Rattle.spec_reading.specs.wasm_form.declared.module.Module.{Module}
use Rattle.spec_loading.specs.spec_linking.Sets.{Member}
use Rattle.spec_loading.specs.spec_linking.Gathering.{total_size}
use Rattle.spec_loading.specs.spec_linking.LinkedSets.{LinkedSet}
use Rattle.spec_loading.specs.spec_linking.Slots.{linked_plan, memory_base, table_base, cells_of, cell_value}
use Rattle.spec_loading.specs.Members.{from_members, opened_global}
use Rattle.wasm_encode.specs.Weight.{sum_of, global_weight}
use Rattle.merge_match.specs.Renumbering.{Numbers}
use Rattle.merge_module.specs.MergedModule.{with_loader, number_global, own_global, member_globals, guard_globals, zero_globals, loader_globals}
use Rattle.merge_module.proofs.Known.{IsKnown}
use Rattle.merge_module.proofs.WithLoader.{with_either}
use Rattle.merge_index.proofs.Counted.{few_bytes, few_members, few_of}
use Rattle.merge_module.proofs.OpenedStore.{two_each, cells_few, member_globals_fit, guards_few}
use Rattle.merge_module.proofs.Opens.{N, M}
use Rattle.merge_module.proofs.Weights.{sum_then}
use Rattle.merge_module.proofs.Pieces.{number_step, constant_step}

abbrev AreFours : List GlobalDef → Type 0
AreFours gs = sum_of global_weight gs ≡ 4 * length gs

four : (k : ℕ) (may : _) → global_weight (number_global may k) ≡ 4
four k may = (let one = (number_step k).one in omega arith)

map_fours : {A : Type 0} (f : A → GlobalDef) → ((a : A) → global_weight (f a) ≡ 4) → (xs : List A) → AreFours (map f xs)
map_fours f each [] = refl
map_fours f each (x ∷ xs) = (let here = each x in let later = map_fours f each xs in omega arith)

then_fours : (xs ys : List GlobalDef) → AreFours xs → AreFours ys → AreFours (xs ++ ys)
then_fours xs ys a b = (let sum = sum_then global_weight xs ys in let both = length-append xs ys in omega arith)

member_fours : (L : LinkedSet) (n : Numbers) (m : ℕ) (wasm : Module) → AreFours (member_globals L n m wasm)
member_fours L n m wasm =
    let cells = map (λ c. number_global true (cell_value L m c)) (cells_of wasm) in
    let own = map (own_global L n m) wasm.globals in
    let rest = then_fours cells own (map_fours (λ c. number_global true (cell_value L m c)) (λ c. four (cell_value L m c) true) (cells_of wasm))
    (map_fours (own_global L n m) (λ g. (let one = (constant_step n g.ty.value (opened_global L m g)).one in omega arith)) wasm.globals) in
    let memory = four (unwrap_or (memory_base L m) 0) false in
    let table = four (unwrap_or (table_base L m) 0) false in
    omega arith

members_fours : (L : LinkedSet) (n : Numbers) (k : ℕ) (xs : List Member) → AreFours (from_members (member_globals L n) k xs)
members_fours L n k [] = refl
members_fours L n k (x ∷ xs) = then_fours (member_globals L n k x.wasm) (from_members (member_globals L n) (k + 1) xs) (member_fours L n k x.wasm) (members_fours L n (k + 1) xs)

guards_fours : (L : LinkedSet) → AreFours (guard_globals L)
guards_fours L =
    let zeros = map_fours (λ (y : Member). number_global true 0) (λ y. four 0 true) L.set.members in
    then_fours (zero_globals L) (with_loader L (loader_globals L)) zeros
    (with_either L AreFours (loader_globals L) refl (λ used. (let one = four 0 true in omega (arith, zeros))))

module _ (L : LinkedSet) (K : IsKnown L) (few : (linked_plan L).pages_max ≤ 16384) where
  abbrev n : Numbers
  n = N L K few

  abbrev merged : Module
  merged = M L K few

  abbrev members : List Member
  members = L.set.members

  pub globals_weigh : sum_of global_weight merged.globals ≤ 4 * total_size members + 16 * length members + 12
  globals_weigh =
      let all = two_each (member_globals L n) (λ k y is. (let fit = member_globals_fit L n k y.wasm in let cells = cells_few y.wasm in let all = is.all in omega arith)) 0 members K.set.members in
      let guards = guards_few L in
      let own = members_fours L n 0 members in
      let last = guards_fours L in
      let both = sum_then global_weight (from_members (member_globals L n) 0 members) (guard_globals L) in
      let first = four (linked_plan L).stack_top true in
      omega arith

  pub globals_light : sum_of global_weight merged.globals ≤ 67112972
  globals_light = (let all = globals_weigh in let bytes = few_bytes L K.set in let count = few_members L K.set in omega arith)

  pub tables_many : length merged.tables ≤ total_size members + 1
  tables_many = (let all = few_of L K.set (λ k w. w.tables) (λ k y is. (let all = is.all in omega arith)) in omega arith)

  pub few_tables : length merged.tables ≤ 16777217
  few_tables = (let all = tables_many in let bytes = few_bytes L K.set in omega arith)
