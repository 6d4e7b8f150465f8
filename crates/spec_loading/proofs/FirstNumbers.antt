-- The numbers with which globals of a linked set begin are of 32 bits: the top of the stack, the bases of members and what their cells hold.
use Rattle.std.proofs.Common.{◌≡◌, ℕ, ◌+◌, ◌*◌, ◌%◌, ◌^◌, ◌<◌, ◌≤◌, List, Some, arith}
use Rattle.spec_linking.specs.wasm_form.declared.runtime.Ref.TheVariants.{Own, Loader}
use Rattle.spec_linking.specs.spec_validation.Faults.{most_pages}
use Rattle.spec_linking.specs.Definitions.{Definition, LoaderFunction, HeapBase, HeapEnd, MemberFunction, MemberData, HostFunction, WeakSymbol, Undefined, env_name}
use Rattle.spec_linking.specs.LinkedSets.{LinkedSet, host_ref}
use Rattle.spec_linking.specs.Slots.{linked_plan, memory_base, table_base, slot_of, heap_end, cell_number}
use Rattle.spec_linking.specs.Links.{Links}
use Rattle.spec_linking.proofs.LinkedFacts.{linked_limits}
use Rattle.spec_safety.proofs.Lookups.{went_on}
use Rattle.spec_loading.proofs.SlotWords.{slot_within}
use Rattle.spec_loading.proofs.PlannedWords.{heap_paged, memory_base_paged, texts_within, table_base_within}

pub table_base_small : (L : LinkedSet) → Links L → (m b : ℕ) → table_base L m ≡ Some b → b < 2 ^ 32
table_base_small L links m b e = (let within = table_base_within L links m b e in omega arith)

module _ (L : LinkedSet) (links : Links L) (few : (linked_plan L).pages_max < most_pages) where
  -- each address in the first pages, and their end, is a number of 32 bits
  pub paged_small : (n : ℕ) → n ≤ (linked_plan L).pages * 65536 → n < 2 ^ 32
  paged_small n le =
      let limits = linked_limits L links in
      let pages = limits.pages in
      omega arith

  pub stack_small : (linked_plan L).stack_top < 2 ^ 32
  stack_small = (let within = texts_within L in paged_small (linked_plan L).stack_top (omega arith))

  pub memory_base_small : (m b : ℕ) → memory_base L m ≡ Some b → b < 2 ^ 32
  memory_base_small m b e = paged_small b (memory_base_paged L m b e)

  -- what a cell holds of a name with this definition
  pub number_small : (name : List ℕ) (d : Definition) (k : ℕ) → cell_number L name d ≡ Some k → k < 2 ^ 32
  number_small name (LoaderFunction call) k e = (let le = slot_within L links (Loader call) k e in omega arith)
  number_small name HeapBase k e =
      let same : (linked_plan L).heap_base ≡ k = cc in
      let le = heap_paged L in
      paged_small k (omega arith)
  number_small name HeapEnd k e = (let same : heap_end L ≡ k = cc in paged_small k (omega arith))
  number_small name (MemberFunction m g) k e = (let le = slot_within L links (Own m g) k e in omega arith)
  number_small name (MemberData m place) k e =
      let base = went_on (memory_base L m) (λ base. Some ((base + place) % 2 ^ 32)) k e in
      let same : (base.0 + place) % 2 ^ 32 ≡ k = (let q = base.2 in cc) in
      omega arith
  number_small name HostFunction k e =
      let r = went_on (host_ref L env_name name) (slot_of L) k e in
      let le = slot_within L links r.0 k r.2 in
      omega arith
  number_small name WeakSymbol k e = (let same : 0 ≡ k = cc in omega arith)
  number_small name Undefined k e = absurd cc
