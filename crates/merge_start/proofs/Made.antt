-- The functions that are made by lists are those of the phases.
use Rattle.std.proofs.Common.{◌≡◌, ◌<◌, ℕ, zero, suc, ◌+◌, ◌*◌, List, [], ◌∷◌, ◌++◌, length, map, drop, slice_get, Option, Some, refl, sym, ap, ap₂, ◌∙◌, append_assoc, arith}
use Rattle.std.proofs.lemmas.List.{length-map}
use Rattle.wasm_form.specs.declared.instr.Instr.{Instr}
use Rattle.wasm_form.specs.declared.module.Module.{Module}
use Rattle.wasm_form.specs.declared.runtime.Ref.TheVariants.{Own}
use Rattle.spec_loading.specs.spec_binary.Options.{◌>>=◌}
use Rattle.spec_loading.specs.spec_execution.Activations.{Effect, GlobalGet, GlobalSet, TableGet, TableSet, TableSize, TableGrow, TableFill, TableCopy, TableInit, ElemDrop, Load, Store, MemorySize, MemoryGrow, MemoryCopy, MemoryFill, MemoryInit, DataDrop}
use Rattle.spec_loading.specs.spec_binary.IndexSpaces.{table_space}
use Rattle.spec_loading.specs.spec_execution.Segments.{segment_effects}
use Rattle.spec_loading.specs.spec_linking.Sets as sets
use Rattle.spec_loading.specs.spec_linking.LinkedSets.{LinkedSet, wasm_of}
use Rattle.spec_loading.specs.spec_linking.Slots.{member_number, fresh_of}
use Rattle.spec_loading.specs.declared.task.Phase.TheVariants.{Start, Relocate, Construct}
use Rattle.spec_loading.specs.Addresses.{sum_before}
use Rattle.spec_loading.specs.Members.{from_members}
use Rattle.spec_loading.specs.LoadedSet.{first_slot, own_functions}
use Rattle.dyl_link.specs.dyl_search.declared.set.Member.{Member}
use Rattle.dyl_link.specs.dyl_search.Gathers.{member_of}
use Rattle.merge_match.specs.Renumbering.{Numbers}
use Rattle.merge_match.specs.Moves.{effect}
use Rattle.merge_match.specs.Parts.{number_of}
use Rattle.merge_start.specs.Words.{Starts, effect_code, effects_code, place_code}
use Rattle.merge_start.specs.declared.numbers.StartNumbers.{StartNumbers}
use Rattle.merge_start.specs.declared.numbers.Places.{Places}
use Rattle.merge_start.specs.declared.phases.Slots.{Slots}
use Rattle.wasm_form.specs.declared.module.Part.{Part}
use Rattle.dyl_addresses.specs.Sets.{module_of}
use Rattle.dyl_addresses.specs.Bases.{AreBases}
use Rattle.merge_start.specs.Listed.{AreListed, IsAt, numbers_at, spans_at, behind, placed_with, parts_of, phase_parts, call_at, elems_total, IsMadeOf}
use Rattle.dyl_addresses.proofs.Offsets.{with_bases}

-- ---- effects by numbers that agree

module _ (n k : Numbers) (a b : ℕ) (elems : (e : ℕ) → n.elem a e ≡ k.elem b e) (tables : (t : ℕ) → n.table a t ≡ k.table b t)
    (datas : (d : ℕ) → n.segment a d ≡ k.segment b d) where
  effect_same : (x : Effect) → effect_code (effect n a x) ≡ effect_code (effect k b x)
  effect_same (TableInit e t to from c) = ap₂ (λ x y. effect_code (TableInit x y to from c)) (elems e) (tables t)
  effect_same (ElemDrop e) = ap (λ x. effect_code (ElemDrop x)) (elems e)
  effect_same (MemoryInit d to from c) = ap (λ x. effect_code (MemoryInit x to from c)) (datas d)
  effect_same (DataDrop d) = ap (λ x. effect_code (DataDrop x)) (datas d)
  effect_same (GlobalGet g) = refl
  effect_same (GlobalSet g v) = refl
  effect_same (TableGet t i) = refl
  effect_same (TableSet t i r) = refl
  effect_same (TableSize t) = refl
  effect_same (TableGrow t r x) = refl
  effect_same (TableFill t i r x) = refl
  effect_same (TableCopy t u to from x) = refl
  effect_same (Load op x offset at) = refl
  effect_same (Store x offset at v) = refl
  effect_same MemorySize = refl
  effect_same (MemoryGrow x) = refl
  effect_same (MemoryCopy to from x) = refl
  effect_same (MemoryFill to byte x) = refl

  pub effects_same : (xs : List Effect) → effects_code n a xs ≡ effects_code k b xs
  effects_same [] = refl
  effects_same (x ∷ xs) = ap₂ (λ p q. p ++ q) (effect_same x) (effects_same xs)

-- ---- sums over members

pub total_is : (start : ℕ) (xs : List Member)
    → elems_total start (map module_of xs) ≡ start + sum_before (λ w. length w.elems) (map member_of xs) (length (map member_of xs))
total_is start [] = omega arith
total_is start (x ∷ xs) = total_is (start + length (module_of x).elems) xs ∙ omega arith

-- ---- a member

module _ (L : LinkedSet) (s : StartNumbers) (n : Numbers) (x : Starts) (listed : AreListed L s n x)
    (m : ℕ) (few : m < length L.set.members) (wasm : Module) (found : wasm_of L m ≡ Some wasm) where
  place_is : (at : Places) → IsAt L m at → (bases : List (Option ℕ)) → AreBases L m bases → (segment first count : ℕ)
      → segment ≡ x.slots m → first ≡ first_slot L m → count ≡ length (own_functions L m)
      → placed_with s (spans_at at wasm) bases segment first count wasm ≡ place_code L n x m wasm
  place_is at is bases are segment first count p q r =
      let here = numbers_at s (spans_at at wasm) in
      let elems : (e : ℕ) → here.elem 0 e ≡ n.elem m e = (λ e. rw is.elems (sym (listed.elems m e wasm found))) in
      let tables : (t : ℕ) → here.table 0 t ≡ n.table m t = (λ t. rw is.tables (sym (listed.tables m t wasm found))) in
      let datas : (d : ℕ) → here.segment 0 d ≡ n.segment m d = (λ d. rw is.datas (sym (listed.datas m d wasm found))) in
      rw (p, q, r)
      (ap₂ (λ f g. f ++ g)
      (ap (λ number. effects_code here 0 (segment_effects number wasm)) (with_bases L m bases are)
      ∙ effects_same here n 0 m elems tables datas (segment_effects (member_number L m) wasm))
      refl)

  call_is : (before : ℕ) (o : Option ℕ) → slice_get s.calls (4 * m + before) ≡ Some o → call_at s.calls (4 * m + before) ≡ o
  call_is before o e = ap (λ (p : Option (Option ℕ)). p >>= λ f. f) e

  pub parts_are : (place : List Instr) → place ≡ place_code L n x m wasm → parts_of s m place ≡ phase_parts L n x m wasm
  parts_are place is =
      let start = call_is 1 _ (listed.calls m Start wasm found) in
      let relocate = call_is 2 _ (listed.calls m Relocate wasm found) in
      let construct = call_is 3 _ (listed.calls m Construct wasm found) in
      rw (is, start, relocate, construct, listed.guards) refl

  pub made_is : (at : Places) → IsAt L m at → (slots : Slots) → (total : ℕ) (members : List Member) → map member_of members ≡ L.set.members
      → total ≡ elems_total 0 (map module_of members)
      → slots.segment ≡ number_of (slice_get s.elems (total + m)) → slots.first ≡ first_slot L m
      → slots.count ≡ length (fresh_of L m)
      → (parts : List Part) → IsMadeOf L s m (spans_at at wasm) slots parts → parts ≡ phase_parts L n x m wasm
  made_is at is slots total members same sum segment first count parts made =
      let one = made wasm found in
      let all : total ≡ sum_before (λ w. length w.elems) L.set.members (length L.set.members) =
      sum ∙ total_is 0 members ∙ ap (λ ms. 0 + sum_before (λ w. length w.elems) ms (length ms)) same ∙ omega arith in
      let p : slots.segment ≡ x.slots m =
      segment ∙ ap (λ t. number_of (slice_get s.elems (t + m))) all ∙ sym (listed.slots m few) in
      let r : slots.count ≡ length (own_functions L m) =
      count ∙ sym (length-map (fresh_of L m) (Own m)) in
      one.2 ∙ parts_are _ (place_is at is one.0 one.1 slots.segment slots.first slots.count p first r)

-- ---- the members one after the other

sum_next : (size : Module → ℕ) (xs : List sets.Member) (m : ℕ) (y : sets.Member) → slice_get xs m ≡ Some y
    → sum_before size xs (m + 1) ≡ sum_before size xs m + size y.wasm
sum_next size [] m y e = absurd cc
sum_next size (x ∷ xs) zero y e =
    let same : x ≡ y = cc in
    let one : sum_before size (x ∷ xs) (zero + 1) ≡ size x.wasm + sum_before size xs zero = refl in
    ap (λ (z : sets.Member). size z.wasm + sum_before size xs zero) same ∙ omega arith
sum_next size (x ∷ xs) (suc m) y e =
    let later : sum_before size xs (m + 1) ≡ sum_before size xs m + size y.wasm = sum_next size xs m y e in
    let next : suc m + 1 ≡ suc (m + 1) = omega arith in
    rw next (omega arith)

drop_next : {A : Type 0} (xs : List A) (m : ℕ) (y : A) → slice_get xs m ≡ Some y → drop m xs ≡ y ∷ drop (m + 1) xs
drop_next [] m y e = absurd cc
drop_next (x ∷ xs) zero y e = (let same : x ≡ y = cc in ap (λ z. z ∷ xs) same)
drop_next (x ∷ xs) (suc m) y e = (let next : suc m + 1 ≡ suc (m + 1) = omega arith in rw next (drop_next xs m y e))

module _ (L : LinkedSet) (m : ℕ) (x : sets.Member) (there : slice_get L.set.members m ≡ Some x) where
  pub next_at : (at : Places) → IsAt L m at → IsAt L (m + 1) (behind (spans_at at x.wasm))
  next_at at is = record {
    elems = ap (λ n. n + length x.wasm.elems) is.elems ∙ sym (sum_next (λ w. length w.elems) L.set.members m x there);
    datas = ap (λ n. n + length x.wasm.datas) is.datas ∙ sym (sum_next (λ w. length w.datas) L.set.members m x there);
    tables = ap (λ n. n + length (table_space x.wasm)) is.tables ∙ sym (sum_next (λ w. length (table_space w)) L.set.members m x there);
  }

  pub next_sum : (size : Module → ℕ) (at : ℕ) → at ≡ sum_before size L.set.members m → at + size x.wasm ≡ sum_before size L.set.members (m + 1)
  next_sum size at is = ap (λ n. n + size x.wasm) is ∙ sym (sum_next size L.set.members m x there)

  pub next_made : {A : Type 0} (of : ℕ → Module → List A) (parts four more all : List A)
      → parts ++ from_members of m (drop m L.set.members) ≡ all → four ≡ of m x.wasm → more ≡ parts ++ four
      → more ++ from_members of (m + 1) (drop (m + 1) L.set.members) ≡ all
  next_made of parts four more all before made added =
      let rest = from_members of (m + 1) (drop (m + 1) L.set.members) in
      ap (λ l. l ++ rest) added
      ∙ append_assoc parts four rest
      ∙ ap (λ l. parts ++ l) (ap (λ l. l ++ rest) made ∙ ap (from_members of m) (sym (drop_next L.set.members m x there)))
      ∙ before
