-- The numbers of what the members of a set have are below 2^32.
use Rattle.std.proofs.Common.{if◌then◌else◌, ◌≡◌, ℕ, zero, suc, ◌+◌, ◌*◌, ◌^◌, ◌<◌, ◌≤◌, Bool, true, false, List, [], ◌∷◌, ◌++◌, length, map, drop, get_or, slice_get, Some, sym, ap, ◌∙◌, arith, length-append}
use Rattle.std.proofs.Math.Seq.{drop-cons}
use Rattle.std.specs.List.{All, list_any}
use Rattle.std.proofs.lemmas.List.Elements.{All-head, All-tail}
use Rattle.spec_loading.proofs.of_spec_binary.Lists.{holds_at}
use Rattle.spec_loading.proofs.of_spec_linking.FewParts.{member_few, total_cons}
use Rattle.wasm_form.specs.declared.module.Import.{Import}
use Rattle.wasm_form.specs.declared.module.Module.{Module}
use Rattle.spec_loading.specs.spec_linking.Sets as sets
use Rattle.spec_loading.specs.spec_linking.Counts.{AreFew}
use Rattle.spec_loading.specs.spec_linking.Imports.{ImportUse, DataCell, SlotCell, use_of}
use Rattle.spec_loading.specs.spec_linking.Gathering.{total_size, IsMember, IsSet}
use Rattle.spec_loading.specs.spec_linking.LinkedSets.{LinkedSet}
use Rattle.spec_loading.specs.spec_linking.Slots.{CellName, same_cell, cell_as, cell_of_import, first_cells}
use Rattle.dyl_link.specs.dyl_search.declared.set.Member.{Member}
use Rattle.dyl_addresses.specs.Sets.{module_of, wasms}
use Rattle.dyl_addresses.specs.declared.lists.Space.{Space}
use Rattle.dyl_addresses.specs.declared.lists.Space.TheVariants.{Types, Codes, Tables, Elems, Datas}
use Rattle.dyl_addresses.specs.Lists.{size_in, numbers_end}
use Rattle.dyl_addresses.specs.Globals.{with_cells, cells_from, globals_end, globals_ends}

-- ---- bytes

-- a member has no more bytes than all members
pub size_within : (xs : List sets.Member) (i : ℕ) (y : sets.Member) → slice_get xs i ≡ Some y → y.size ≤ total_size xs
size_within [] i y e = absurd cc
size_within (x ∷ xs) zero y e =
    let same : x ≡ y = cc in
    let here = ap (λ (z : sets.Member). z.size) same in
    let sum = total_cons x xs in
    omega arith
size_within (x ∷ xs) (suc i) y e = (let later = size_within xs i y e in let sum = total_cons x xs in omega arith)

-- ---- going on member by member

-- what is left of the members, where one is looked at
here_and_later : (xs : List Member) (i : ℕ) (x : Member) → i < length xs → x ≡ get_or xs i x → drop i xs ≡ x ∷ drop (suc i) xs
here_and_later xs i x lt is = drop-cons xs i x lt ∙ ap (λ y. y ∷ drop (suc i) xs) (sym is)

end_above : (size : Module → ℕ) (start : ℕ) (xs : List Module) → start ≤ numbers_end size start xs
end_above size start [] = omega arith
end_above size start (x ∷ xs) = (let later = end_above size (start + size x) xs in omega arith)

pub room_for : (size : Module → ℕ) (xs : List Member) (i : ℕ) (x : Member) → i < length xs → x ≡ get_or xs i x → (next end : ℕ)
    → numbers_end size next (map module_of (drop i xs)) ≡ end → end < 2 ^ 32 → next + size (module_of x) < 2 ^ 32
room_for size xs i x lt is next end at below =
    let split = ap (λ (ys : List Member). numbers_end size next (map module_of ys)) (here_and_later xs i x lt is) in
    let above = end_above size (next + size (module_of x)) (map module_of (drop (suc i) xs)) in
    omega arith

globals_above : (base : ℕ) (xs : List Module) → base ≤ globals_ends base xs
globals_above base [] = omega arith
globals_above base (x ∷ xs) = (let later = globals_above (globals_end base x) xs in omega arith)

pub room_for_globals : (xs : List Member) (i : ℕ) (x : Member) → i < length xs → x ≡ get_or xs i x → (next end : ℕ)
    → globals_ends next (map module_of (drop i xs)) ≡ end → end < 2 ^ 32 → globals_end next (module_of x) < 2 ^ 32
room_for_globals xs i x lt is next end at below =
    let split = ap (λ (ys : List Member). globals_ends next (map module_of ys)) (here_and_later xs i x lt is) in
    let above = globals_above (globals_end next (module_of x)) (map module_of (drop (suc i) xs)) in
    omega arith

-- ---- cells

pub cells_more : (known : List CellName) (is : List Import) → length known ≤ length (cells_from known is)
cells_more known [] = omega arith
cells_more known (i ∷ is) =
    let later = cells_more (with_cells known (cell_of_import i)) is in
    omega (arith, length-append known (first_cells known (cell_of_import i)))

one_cell : (i : Import) (u : ImportUse) → length (cell_as i u) ≤ 1
one_cell i DataCell = omega arith
one_cell i SlotCell = omega arith
one_cell i _ = omega arith

first_few : (known cs : List CellName) → length (first_cells known cs) ≤ length cs
first_few known [] = omega arith
first_few known (c ∷ cs) = go (list_any (same_cell c) known) (first_few known cs) (first_few (known ++ c ∷ []) cs)
  where
    go : (b : Bool) → length (first_cells known cs) ≤ length cs → length (first_cells (known ++ c ∷ []) cs) ≤ length cs
        → length (if b then first_cells known cs else c ∷ first_cells (known ++ c ∷ []) cs) ≤ suc (length cs)
    go true old new = omega arith
    go false old new = omega arith

cells_few : (known : List CellName) (is : List Import) → length (cells_from known is) ≤ length known + length is
cells_few known [] = omega arith
cells_few known (i ∷ is) =
    let later = cells_few (with_cells known (cell_of_import i)) is in
    let one = one_cell i (use_of i) in
    let first = first_few known (cell_of_import i) in
    omega (arith, length-append known (first_cells known (cell_of_import i)))

-- ---- all members

module _ (size : Module → ℕ) (each : (x : sets.Member) → IsMember x → size x.wasm ≤ x.size) where
  end_within : (start : ℕ) (xs : List sets.Member) → All IsMember xs → numbers_end size start (wasms xs) ≤ start + total_size xs
  end_within start [] all = omega arith
  end_within start (x ∷ xs) all =
      let here = each x (All-head IsMember x xs all) in
      let later = end_within (start + size x.wasm) xs (All-tail IsMember x xs all) in
      let both = total_cons x xs in
      omega arith

globals_within : (base : ℕ) (xs : List sets.Member) → All IsMember xs → globals_ends base (wasms xs) ≤ base + 2 * length xs + total_size xs
globals_within base [] all = omega arith
globals_within base (x ∷ xs) all =
    let few = (member_few x (All-head IsMember x xs all)).all in
    let cells = cells_few [] x.wasm.imports in
    let later = globals_within (globals_end base x.wasm) xs (All-tail IsMember x xs all) in
    let both = total_cons x xs in
    omega arith

space_within : (space : Space) (x : sets.Member) → IsMember x → size_in space x.wasm ≤ x.size
space_within Types x is = (let few = (member_few x is).all in omega arith)
space_within Codes x is = (let few = (member_few x is).all in omega arith)
space_within Tables x is = (let few = (member_few x is).all in omega arith)
space_within Elems x is = (let few = (member_few x is).all in omega arith)
space_within Datas x is = (let few = (member_few x is).all in omega arith)

module _ (L : LinkedSet) (shape : IsSet L.set) where
  pub space_ends : (space : Space) (start : ℕ) → start ≤ 1 → numbers_end (size_in space) start (wasms L.set.members) < 2 ^ 32
  space_ends space start le =
      let within = end_within (size_in space) (space_within space) start L.set.members shape.members in
      let bytes = shape.few_bytes in
      omega arith

  pub globals_end_below : globals_ends 1 (wasms L.set.members) < 2 ^ 32
  globals_end_below =
      let within = globals_within 1 L.set.members shape.members in
      let bytes = shape.few_bytes in
      let few = shape.few in
      omega arith

  -- a member has no more of anything than all bytes
  pub member_within : (m : ℕ) (x : sets.Member) → slice_get L.set.members m ≡ Some x → AreFew x.wasm 16777216
  member_within m x found =
      let few = (member_few x (holds_at IsMember L.set.members m x shape.members found)).all in
      let within = size_within L.set.members m x found in
      let bytes = shape.few_bytes in
      record { all = omega arith }
