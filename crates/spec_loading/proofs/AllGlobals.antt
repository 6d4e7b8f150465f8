-- Each address of a global of the opening store is that of a global of the run.
use Rattle.std.proofs.Common.{◌≡◌, ℕ, zero, suc, ◌+◌, ◌-◌, ◌<◌, Bool, true, false, ◌||◌, List, [], ◌∷◌, ◌++◌, length, slice_get, Option, Some, None, cond, if◌then◌else◌, refl, ap, ◌∙◌, subst, arith, inl, inr}
use Rattle.std.specs.List.{All, list_any, flat_map, position_from}
use Rattle.std.proofs.lemmas.Bool.{cases_lt, lt-ltb}
use Rattle.std.proofs.lemmas.List.Elements.{All-nil, All-cons, All-head, All-tail, All-append}
use Rattle.std.proofs.lemmas.List.Folds.{list_any-append}
use Rattle.spec_linking.specs.wasm_form.declared.module.Import.{Import}
use Rattle.spec_linking.specs.wasm_form.declared.module.Module.{Module}
use Rattle.spec_linking.specs.spec_binary.Options.{◌>>=◌}
use Rattle.spec_linking.proofs.of_spec_binary.Lists.{got}
use Rattle.spec_linking.specs.declared.fault.Kind.TheVariants as kind
use Rattle.spec_linking.specs.Sets.{Member}
use Rattle.spec_linking.specs.Imports.{ImportUse, DataCell, SlotCell, use_of}
use Rattle.spec_linking.specs.LinkedSets.{LinkedSet, wasm_of}
use Rattle.spec_linking.specs.Slots.{CellName, same_cell, cell_as, cell_of_import, first_cells, cells_of}
use Rattle.spec_loading.specs.Addresses.{globals_size, memory_base_address, cell_address, own_global_address}
use Rattle.spec_loading.specs.Members.{opened_globals, opening_store}
use Rattle.spec_loading.specs.RunItems.{RunGlobal, SharedStackPointer, MemberMemoryBase, MemberTableBase, MemberCell, MemberGlobal, address_of_global}
use Rattle.spec_loading.specs.Laws.{GlobalsAreAll}
use Rattle.spec_loading.proofs.LinkedCells.{mem_itself, func_itself}
use Rattle.spec_loading.proofs.MemberItems.{item_of}
use Rattle.spec_loading.proofs.LinkedStore.{globals_many}

-- ---- each cell of a member is found where it stands

abbrev IsItself : CellName → Type 0
IsItself c = same_cell c c ≡ true

neither : (a b : Bool) → (a || b) ≡ false → (a ≡ false) × (b ≡ false)
neither true b e = absurd cc
neither false b e = (refl, e)

abbrev StandsAt : List CellName → List CellName → ℕ → CellName → Type 0
StandsAt known cs j d = (list_any (same_cell d) known ≡ false) × ((k : ℕ) → position_from (same_cell d) k cs ≡ Some (k + j))

stands : (known cs : List CellName) → All IsItself cs → (j : ℕ) (d : CellName) → slice_get (first_cells known cs) j ≡ Some d → StandsAt known (first_cells known cs) j d
stands known [] all j d e = absurd cc
stands known (c ∷ cs) all j d e =
    go (list_any (same_cell c) known) refl j e (λ i h. stands known cs (All-tail IsItself c cs all) i d h) (λ i h. stands (known ++ c ∷ []) cs (All-tail IsItself c cs all) i d h)
  where
    itself : IsItself c
    itself = All-head IsItself c cs all

    go : (b : Bool) → list_any (same_cell c) known ≡ b → (j : ℕ) → slice_get (if b then first_cells known cs else c ∷ first_cells (known ++ c ∷ []) cs) j ≡ Some d
        → ((i : ℕ) → slice_get (first_cells known cs) i ≡ Some d → StandsAt known (first_cells known cs) i d)
        → ((i : ℕ) → slice_get (first_cells (known ++ c ∷ []) cs) i ≡ Some d → StandsAt (known ++ c ∷ []) (first_cells (known ++ c ∷ []) cs) i d)
        → StandsAt known (if b then first_cells known cs else c ∷ first_cells (known ++ c ∷ []) cs) j d
    go true q j h kept added = kept j h
    go false q zero h kept added =
        let same : c ≡ d = cc in (
          subst (λ x. list_any (same_cell x) known ≡ false) same q,
          (λ k. subst (λ x. position_from (same_cell x) k (c ∷ first_cells (known ++ c ∷ []) cs) ≡ Some (k + 0)) same
              (ap (λ b. cond b (Some k) (position_from (same_cell c) (k + 1) (first_cells (known ++ c ∷ []) cs))) itself ∙ ap Some (omega arith))),
        )
    go false q (suc i) h kept added =
        let found = added i h in
        let apart = list_any-append (same_cell d) known (c ∷ []) in
        let both = neither (list_any (same_cell d) known) (same_cell d c || false) (let h = found.0 in cc) in
        let other = neither (same_cell d c) false both.1 in (
          both.0,
          (λ k. ap (λ b. cond b (Some k) (position_from (same_cell d) (k + 1) (first_cells (known ++ c ∷ []) cs))) other.0 ∙ found.1 (k + 1) ∙ ap Some (omega arith)),
        )

cell_itself : (i : Import) (u : ImportUse) → All IsItself (cell_as i u)
cell_itself i DataCell = All-cons IsItself (kind.Mem, i.field) [] (mem_itself i.field) (All-nil IsItself)
cell_itself i SlotCell = All-cons IsItself (kind.Func, i.field) [] (func_itself i.field) (All-nil IsItself)
cell_itself i _ = All-nil IsItself

cells_themselves : (is : List Import) → All IsItself (flat_map cell_of_import is)
cells_themselves [] = All-nil IsItself
cells_themselves (i ∷ is) = All-append IsItself (cell_of_import i) (flat_map cell_of_import is) (cell_itself i (use_of i)) (cells_themselves is)

cell_stands : (wasm : Module) (j : ℕ) (d : CellName) → slice_get (cells_of wasm) j ≡ Some d → (k : ℕ) → position_from (same_cell d) k (cells_of wasm) ≡ Some (k + j)
cell_stands wasm j d e = (stands [] (flat_map cell_of_import wasm.imports) (cells_themselves wasm.imports) j d e).1

-- ---- each place of a member

module _ (L : LinkedSet) where
  abbrev IsAt : ℕ → Type 0
  IsAt a = (x : RunGlobal) × (address_of_global L x ≡ Some a)

  module _ (m : ℕ) (member : Member) (found : slice_get L.set.members m ≡ Some member) where
    abbrev base : ℕ
    base = memory_base_address L m

    abbrev wasm : Module
    wasm = member.wasm

    here : wasm_of L m ≡ Some wasm
    here = ap (λ (o : Option Member). o >>= λ y. Some y.wasm) found

    cell_or_own : (j : ℕ) → suc (suc j) < globals_size wasm → IsAt (base + suc (suc j))
    cell_or_own j lt = elim (cases_lt j (length (cells_of wasm))) [
      | inl less ↦
          let d = got (cells_of wasm) j less in
          (MemberCell m d.0, ap (λ (o : Option Module). o >>= λ w. cell_address L m w d.0) here ∙ cell_stands wasm j d.0 d.1 (base + 2) ∙ ap Some (omega arith))
      | inr past ↦
          let k = j - length (cells_of wasm) in
          let start = base + 2 + length (cells_of wasm) in
          let within : k < length wasm.globals = omega arith in (
            MemberGlobal m k,
            ap (λ (o : Option Module). o >>= λ w. own_global_address L m w k) here
                ∙ ap (λ (b : Bool). if b then Some (start + k) else None) (lt-ltb k (length wasm.globals) within) ∙ ap Some (omega arith),
          )
    ]

    each_place : (place : ℕ) → place < globals_size wasm → IsAt (base + place)
    each_place zero lt = (MemberMemoryBase m, ap (λ (o : Option Module). o >>= λ w. Some base) here ∙ ap Some (omega arith))
    each_place (suc zero) lt = (MemberTableBase m, ap (λ (o : Option Module). o >>= λ w. Some (base + 1)) here ∙ ap Some (omega arith))
    each_place (suc (suc j)) lt = cell_or_own j lt

  each_address : (a : ℕ) → a < length (opening_store L).globals → IsAt a
  each_address zero lt = (SharedStackPointer, refl)
  each_address (suc n) lt =
      let item = item_of (opened_globals L) globals_size (globals_many L) 0 L.set.members n (omega arith) in
      let is = item.is in
      subst IsAt (omega arith) (each_place item.m item.member item.found item.place item.within)

pub globals_are_all : GlobalsAreAll
globals_are_all L a lt = each_address L a lt
