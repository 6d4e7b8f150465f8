-- The findings of linking, in order.
use Rattle.std.proofs.Common.{◌≡◌, ℕ, ◌<◌, ◌≤◌, ◌^◌, Bool, true, false, max, nat_le, length, Some, None, refl, ap, arith, leb-true, if◌then◌else◌}
use Rattle.std.proofs.lemmas.List.{length-map}
use Rattle.spec_loading.specs.spec_linking.declared.fault.LinkFault.{LinkFault}
use Rattle.spec_loading.specs.spec_linking.declared.fault.LinkFault.TheVariants as faults
use Rattle.spec_loading.specs.spec_linking.Gathering.{IsSet}
use Rattle.spec_loading.specs.spec_linking.Plans.{Plan, limit, pages_limit, regions_limit, sizes_of}
use Rattle.spec_loading.specs.spec_linking.LinkedSets.{LinkedSet}
use Rattle.spec_loading.specs.spec_linking.Slots.{linked_plan, table_entries}
use Rattle.spec_loading.specs.spec_linking.Links.{Finding, ◌or_else◌, fault_without, set_entry, members_fault, duplicate_fault, limit_fault, link_fault}
use Rattle.spec_loading.proofs.of_spec_linking.LinkedFacts.{or_none}
use Rattle.dyl_slots.specs.dyl_search.declared.set.ClosedSet.{ClosedSet}
use Rattle.dyl_slots.specs.dyl_search.Gathers.{member_of, set_of}
use Rattle.dyl_link.specs.Answers.{IsFirst}
use Rattle.dyl_link.specs.Limits.{regions_fault}

pub or_else-assoc : (a b c : Finding) → (a or_else (b or_else c)) ≡ ((a or_else b) or_else c)
or_else-assoc None b c = refl
or_else-assoc (Some x) b c = refl

-- what comes before any placing, and then the limits
pub before_limits : (L : LinkedSet) → link_fault L ≡ ((members_fault L 0 L.set.members or_else (duplicate_fault L or_else fault_without (set_entry L.set.members))) or_else limit_fault L)
before_limits L = by (members_fault L 0 L.set.members) (duplicate_fault L) (fault_without (set_entry L.set.members)) (limit_fault L)
  where
    by : (a b c d : Finding) → (a or_else (b or_else (c or_else d))) ≡ ((a or_else (b or_else c)) or_else d)
    by None b c d = or_else-assoc b c d
    by (Some x) b c d = refl

-- what the regions ask for, and then the entries with the fresh slots
pub regions_first : (L : LinkedSet) → limit_fault L ≡ (regions_fault L.set L.options or_else limit faults.TableLimit (table_entries L) (sizes_of L.set L.options).table_max)
regions_first L =
    or_else-assoc (pages_limit faults.MemoryLimit (linked_plan L)) (regions_limit faults.TableLimit (linked_plan L) (sizes_of L.set L.options)) (limit faults.TableLimit (table_entries L) (sizes_of L.set L.options).table_max)

-- nothing is found: a limit holds
within : (fault : ℕ → ℕ → LinkFault) (amount most : ℕ) → limit fault amount most ≡ None → amount ≤ most
within fault amount most e = by (nat_le amount most) refl e
  where
    by : (b : Bool) → nat_le amount most ≡ b → (if b then None else Some (fault amount most)) ≡ None → amount ≤ most
    by true h e = leb-true amount most h
    by false h e = absurd cc

-- the regions of a plan without a fault lie within the limits
pub plan_within : (L : LinkedSet) (plan : Plan) → plan ≡ linked_plan L → regions_fault L.set L.options ≡ None → (sizes_of L.set L.options).pages_max ≤ 16384 → (sizes_of L.set L.options).table_max ≤ 983040
    → (plan.table_end < 2 ^ 32) × (plan.pages ≤ 16384)
plan_within L plan is none pages entries =
    let both = or_none (pages_limit faults.MemoryLimit (linked_plan L)) (regions_limit faults.TableLimit (linked_plan L) (sizes_of L.set L.options)) none in
    let low = within faults.MemoryLimit (linked_plan L).pages (linked_plan L).pages_max both.0 in
    let few = within faults.TableLimit (max (linked_plan L).table_end (sizes_of L.set L.options).table_min) (sizes_of L.set L.options).table_max both.1 in
    let end = ap (λ (p : Plan). p.table_end) is in
    let size = ap (λ (p : Plan). p.pages) is in
    (omega arith, omega arith)

-- a set has so few members
pub few_members : (S : ClosedSet) → IsSet (set_of S) → length S.members ≤ 256
few_members S shape = let count = length-map S.members member_of in let few = shape.few in omega arith

-- only want of memory is answered where nothing is found
pub nothing_found : (fault : LinkFault) (found : Finding) → IsFirst fault found → found ≡ None → fault ≡ faults.Memory
nothing_found (faults.MemoryLimit pages most) found first none = absurd (let e = first (λ q. cc) in cc)
nothing_found (faults.TableLimit entries most) found first none = absurd (let e = first (λ q. cc) in cc)
nothing_found (faults.OwnMemory m) found first none = absurd (let e = first (λ q. cc) in cc)
nothing_found (faults.TlsExport m name) found first none = absurd (let e = first (λ q. cc) in cc)
nothing_found (faults.Unresolved m k name) found first none = absurd (let e = first (λ q. cc) in cc)
nothing_found (faults.IllTyped m k name) found first none = absurd (let e = first (λ q. cc) in cc)
nothing_found (faults.Duplicate name a b) found first none = absurd (let e = first (λ q. cc) in cc)
nothing_found faults.NoEntry found first none = absurd (let e = first (λ q. cc) in cc)
nothing_found faults.Memory found first none = refl
