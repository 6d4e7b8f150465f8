-- The shared table of a linked set: its size, where the slots behind those of the members begin, and what is written there.
use Rattle.std.proofs.Common.{◌≡◌, ℕ, suc, ◌+◌, ◌<◌, ◌≤◌, Bool, true, List, [], ◌∷◌, length, map, take, drop, nat_le, Option, Some, None, ap, ap₂, ◌∙◌, subst, arith, length-append, if◌then◌else◌}
use Rattle.std.specs.Prelude.{Result}
use Rattle.std.proofs.Math.Seq.{take-length}
use Rattle.std.proofs.lemmas.Bool.Decides.{nat_tests}
use Rattle.std.proofs.lemmas.List.{length-map, length-replicate}
use Rattle.wasm_form.specs.declared.runtime.Ref.{Ref}
use Rattle.wasm_form.specs.declared.runtime.Ref.TheVariants.{Own}
use Rattle.wasm_form.specs.declared.runtime.Trap.{Trap}
use Rattle.wasm_form.specs.declared.runtime.Trap.TheVariants.{TableBounds}
use Rattle.spec_loading.specs.spec_binary.Options.{◌>>=◌}
use Rattle.spec_loading.specs.spec_runtime.Tables.{TableInstance, nulls, new_table, entries_initialized, entries_written, entries_overwritten}
use Rattle.spec_loading.specs.spec_linking.Sets.{Member}
use Rattle.spec_loading.specs.spec_linking.Plans.{least_of, most_table, maxima, limits_in, table_limits}
use Rattle.spec_loading.specs.spec_linking.LinkedSets.{LinkedSet}
use Rattle.spec_loading.specs.spec_linking.Slots.{fresh_of, fresh_from, fresh_functions, outside_slots, fresh_slots, table_entries, table_most, table_growth}
use Rattle.spec_loading.specs.spec_linking.Links.{Links}
use Rattle.spec_loading.proofs.of_spec_linking.LinkedFacts.{linked_limits}
use Rattle.spec_loading.specs.LoadedSet.{slots_before, first_slot}
use Rattle.spec_loading.specs.Members.{opening_table}
use Rattle.spec_loading.specs.Laws.{SizesArePlanned, SlotsFit}
use Rattle.wasm_space.specs.Access.{ChangesOrTraps}
use Rattle.dyl_store.specs.Opening.{outside_at}

-- ---- the limits

least_bound : (bound : ℕ) (ns : List ℕ) → least_of bound ns ≤ bound
least_bound bound [] = omega arith
least_bound bound (n ∷ ns) = (let le = least_bound bound ns in omega arith)

least_above : (e bound more : ℕ) (ns : List ℕ) → e ≤ more → e ≤ least_of bound ns → e ≤ least_of more ns
least_above e bound more [] le within = le
least_above e bound more (n ∷ ns) le within = (let later = least_above e bound more ns le (omega arith) in omega arith)

pub most_entries : (L : LinkedSet) → Links L → (table_entries L ≤ table_most L) × (table_most L ≤ 1048576)
most_entries L links =
    let ns = maxima (limits_in table_limits L.set.members) in
    let within : table_entries L ≤ least_of most_table ns = (linked_limits L links).entries in
    let bound = least_bound most_table ns in
    let some = least_above (table_entries L) most_table (table_entries L + table_growth) ns (omega arith) within in
    let most = least_bound (table_entries L + table_growth) ns in
    (some, omega arith)

-- ---- slots

module _ (L : LinkedSet) where
  fresh_all : (n : ℕ) (xs : List Member) → slots_before L (n + length xs) ≡ slots_before L n + length (fresh_from L n xs)
  fresh_all n [] = (let place : n + 0 ≡ n = omega arith in ap (slots_before L) place ∙ omega arith)
  fresh_all n (x ∷ xs) =
      let place : n + suc (length xs) ≡ n + 1 + length xs = omega arith in
      let one : n + 1 ≡ suc n = omega arith in
      let before : slots_before L (n + 1) ≡ slots_before L n + length (fresh_of L n) = ap (slots_before L) one in
      let later = fresh_all (n + 1) xs in
      let many = length-append (map (Own n) (fresh_of L n)) (fresh_from L (n + 1) xs) in
      let own = length-map (fresh_of L n) (Own n) in
      ap (slots_before L) place ∙ later ∙ omega arith

  pub outside_is : (last : ℕ) → suc last ≡ length L.set.members → first_slot L last + length (fresh_of L last) ≡ outside_at L
  outside_is last is =
      let all : slots_before L (0 + length L.set.members) ≡ 0 + length (fresh_functions L) = fresh_all 0 L.set.members in
      let end : suc last ≡ 0 + length L.set.members = omega arith in
      let here : slots_before L last + length (fresh_of L last) ≡ slots_before L (0 + length L.set.members) = ap (slots_before L) end in
      omega arith

  pub outside_fits : outside_at L + length (map Some (outside_slots L)) ≤ table_entries L
  outside_fits =
      let apart : length (fresh_slots L) ≡ length (fresh_functions L) + length (outside_slots L) = length-append (fresh_functions L) (outside_slots L) in
      let same = length-map (outside_slots L) Some in
      omega arith

pub outside_small : (L : LinkedSet) → Links L → outside_at L ≤ 1048576
outside_small L links = (let fits = outside_fits L in let most = most_entries L links in omega arith)

-- the fresh slots of the last member end there
pub ends : (L : LinkedSet) (last slot : ℕ) (fresh : List ℕ) → last + 1 ≡ length L.set.members → slot ≡ first_slot L last → fresh ≡ fresh_of L last → slot + length fresh ≡ outside_at L
ends L last slot fresh is first own = ap₂ (λ (n : ℕ) (fs : List ℕ). n + length fs) first own ∙ outside_is L last (omega arith)

-- the fresh slots of a member are some of the entries
pub fresh_few : (L : LinkedSet) → Links L → SlotsFit → SizesArePlanned → (m : ℕ) → m < length L.set.members → length (fresh_of L m) < 4294967296
fresh_few L links fit sizes m inside =
    let fits = fit L m inside in
    let sized = (sizes L).1 in
    let most = most_entries L links in
    let many = length-map (fresh_of L m) (Own m) in
    omega arith

-- ---- the entries

nulls_length : (n : ℕ) → length (nulls n) ≡ n
unfolding nulls
nulls_length n = length-replicate n _

-- entries that fit are written
written_so : (old : TableInstance) (at : ℕ) (items : List (Option Ref)) → at + length items ≤ length old.entries
    → entries_initialized old at items 0 (length items) ≡ Some (record old { entries = entries_overwritten old.entries at items })
written_so old at items fits =
    let all : nat_le (0 + length items) (length items) ≡ true = grind (arith, nat_tests) in
    let inside : nat_le (at + length items) (length old.entries) ≡ true = grind (arith, nat_tests) in
    ap (λ (b : Bool). (if b then Some (take (length items) (drop 0 items)) else None) >>= entries_written old at) all
    ∙ ap (entries_written old at) (take-length items)
    ∙ ap (λ (b : Bool). if b then Some (record old { entries = entries_overwritten old.entries at items }) else None) inside

pub written : (old new : TableInstance) (at n : ℕ) (items : List (Option Ref)) (r : Result (Unit {0}) Trap) → n ≡ length items → at + length items ≤ length old.entries
    → ChangesOrTraps TableBounds old (entries_initialized old at items 0 n) r new → new ≡ record old { entries = entries_overwritten old.entries at items }
written old new at n items r many fits told =
    let wanted : entries_initialized old at items 0 n ≡ Some (record old { entries = entries_overwritten old.entries at items }) =
    ap (entries_initialized old at items 0) many ∙ written_so old at items fits in
    (subst (λ (o : Option TableInstance). ChangesOrTraps TableBounds old o r new) wanted told).1

module _ (L : LinkedSet) (links : Links L) where
  abbrev IsEmpty : TableInstance → Type 0
  IsEmpty t = t ≡ new_table (table_entries L) (table_most L)

  abbrev AreOutside : List (Option Ref) → Type 0
  AreOutside items = items ≡ map Some (outside_slots L)

  pub entries_fit : (empty : TableInstance) (at : ℕ) (items : List (Option Ref)) → IsEmpty empty → at ≡ outside_at L → AreOutside items → at + length items ≤ length empty.entries
  entries_fit empty at items e place is =
      let size : length empty.entries ≡ table_entries L = ap (λ (t : TableInstance). length t.entries) e ∙ nulls_length (table_entries L) in
      let many : length items ≡ length (map Some (outside_slots L)) = ap length is in
      let fits = outside_fits L in
      omega arith

  pub entries_few : (items : List (Option Ref)) → AreOutside items → length items < 4294967296
  entries_few items is =
      let many : length items ≡ length (map Some (outside_slots L)) = ap length is in
      let fits = outside_fits L in
      let most = most_entries L links in
      omega arith

  pub table_is : (empty filled : TableInstance) (at : ℕ) (items : List (Option Ref)) → IsEmpty empty → at ≡ outside_at L → AreOutside items
      → filled ≡ record empty { entries = entries_overwritten empty.entries at items } → filled ≡ opening_table L
  table_is empty filled at items e place is told =
      told
      ∙ ap (λ (t : TableInstance). record t { entries = entries_overwritten t.entries at items }) e
      ∙ ap₂ (λ (a : ℕ) (xs : List (Option Ref)). record (new_table (table_entries L) (table_most L)) { entries = entries_overwritten (new_table (table_entries L) (table_most L)).entries a xs }) place is
