-- What is found of a set is what there is of a linked one.
use Rattle.std.proofs.Common.{◌≡◌, ℕ, ◌≤◌, List, map, length, Some, None, refl, ap, sym, ◌∙◌, subst}
use Rattle.std.proofs.lemmas.List.{length-map}
use Rattle.wasm_form.specs.declared.runtime.Ref.{Ref}
use Rattle.spec_loading.specs.spec_runtime.Names.{HostNames}
use Rattle.spec_loading.specs.spec_linking.declared.fault.LinkFault.TheVariants as faults
use Rattle.spec_loading.specs.spec_linking.Plans as plans
use Rattle.spec_loading.specs.spec_linking.Gathering.{IsSet}
use Rattle.spec_loading.specs.spec_linking.LinkedSets.{LinkedSet}
use Rattle.spec_loading.specs.spec_linking.Slots.{linked_plan, table_entries}
use Rattle.spec_loading.specs.spec_linking.Links.{◌or_else◌, fault_without, set_entry, members_fault, duplicate_fault, limit_fault, link_fault}
use Rattle.spec_loading.proofs.of_spec_linking.LinkedFacts.{or_none}
use Rattle.dyl_slots.specs.dyl_plan.declared.region.Sizes.{Sizes}
use Rattle.dyl_slots.specs.dyl_plan.Regions.{asked}
use Rattle.dyl_slots.specs.dyl_search.declared.set.Member.{Member}
use Rattle.dyl_slots.specs.dyl_search.declared.set.ClosedSet.{ClosedSet}
use Rattle.dyl_slots.specs.dyl_search.Gathers.{member_of, set_of}
use Rattle.dyl_slots.specs.dyl_scope.Scopes.{Scopes, AreOf}
use Rattle.dyl_slots.specs.dyl_imports.declared.imports.Imports.{Imports}
use Rattle.dyl_slots.specs.dyl_imports.Kept.{AreOver, AreImportsOf}
use Rattle.dyl_slots.specs.declared.tables.Tables.{Tables}
use Rattle.dyl_slots.specs.Given.{AllAt}
use Rattle.dyl_slots.specs.Tables.{IsCounted, AreTables}
use Rattle.dyl_link.specs.declared.options.LinkOptions.{LinkOptions}
use Rattle.dyl_link.specs.Sets.{options_of, linked_set}
use Rattle.dyl_link.specs.Limits.{regions_fault}
use Rattle.dyl_link.specs.Steps.{AreNamed, IsOver, IsSound, IsPlaced, AreAllOf}
use Rattle.dyl_link.proofs.Findings.{before_limits, regions_first, plan_within}

-- ---- tables

pub is_counted : (L : LinkedSet) (imports : Imports) (plan : plans.Plan) (functions lent : List (List Ref)) (sizes : Sizes) → IsPlaced L imports plan sizes → lent ≡ functions
    → length functions ≡ length imports.known.members.now → length imports.known.members.now ≤ 256 → AllAt (AreNamed L) functions → IsCounted L imports plan lent sizes
is_counted L imports plan functions lent sizes is same count few named =
    subst (λ fs. IsCounted L imports plan fs sizes) (sym same)
    (record {
      given = record {
        set = is.imported.known.over.members;
        placed = is.placed;
        count = count;
        names = named;
        few = few;
        none = is.none;
        entries = is.entries;
        pages = is.pages;
      };
      imported = is.imported;
      least = ap (λ (s : plans.Sizes). s.table_min) is.asks;
    })

pub are_all : (L : LinkedSet) (imports : Imports) (functions : List (List Ref)) (tables : Tables) → AreImportsOf L imports → length functions ≡ length imports.known.members.now
    → AllAt (AreNamed L) functions → AreTables L tables → AreAllOf L functions tables
are_all L imports functions tables imported count named are = record {
  count = count ∙ sym (length-map imports.known.members.now member_of) ∙ ap length (sym imported.known.over.members);
  names = named;
  tables = are;
}

-- ---- the plan

pub is_placed : (L : LinkedSet) (S : ClosedSet) (o : LinkOptions) (imports : Imports) (plan : plans.Plan) (sizes : Sizes) → IsSound L S o imports → plan ≡ plans.plan_of (set_of S) (options_of o)
    → asked sizes ≡ plans.sizes_of (set_of S) (options_of o) → regions_fault (set_of S) (options_of o) ≡ None → sizes.pages_max ≤ 16384 → sizes.table_max ≤ 983040 → IsPlaced L imports plan sizes
is_placed L S o imports plan sizes sound is asks none pages entries =
    let set = sym sound.over.set in
    let options = sym sound.over.options in
    let placed : plan ≡ linked_plan L = is ∙ (λ i. plans.plan_of (set i) (options i)) in
    let asked_here : asked sizes ≡ plans.sizes_of L.set L.options = asks ∙ (λ i. plans.sizes_of (set i) (options i)) in
    let none_here : regions_fault L.set L.options ≡ None = sym (λ i. regions_fault (set i) (options i)) ∙ none in
    let low : (plans.sizes_of L.set L.options).pages_max ≤ 16384 = subst (λ n. n ≤ 16384) (ap (λ (s : plans.Sizes). s.pages_max) asked_here) pages in
    let few : (plans.sizes_of L.set L.options).table_max ≤ 983040 = subst (λ n. n ≤ 983040) (ap (λ (s : plans.Sizes). s.table_max) asked_here) entries in
    let within = plan_within L plan placed none_here low few in
    record { imported = sound.over.imported; none = sound.none; placed = placed; asks = asked_here; entries = within.0; pages = within.1 }

-- what is above the limits: first by the regions, and then with the fresh slots
pub limits_from : (L : LinkedSet) (S : ClosedSet) (o : LinkOptions) (imports : Imports) (sizes : Sizes) → IsSound L S o imports → asked sizes ≡ plans.sizes_of (set_of S) (options_of o)
    → limit_fault L ≡ (regions_fault (set_of S) (options_of o) or_else plans.limit faults.TableLimit (table_entries L) sizes.table_max)
limits_from L S o imports sizes sound asks =
    let set = sound.over.set in
    let options = sound.over.options in
    let most : (plans.sizes_of L.set L.options).table_max ≡ sizes.table_max =
    (λ i. (plans.sizes_of (set i) (options i)).table_max) ∙ sym (ap (λ (s : plans.Sizes). s.table_max) asks) in
    regions_first L ∙ (λ i. regions_fault (set i) (options i) or_else plans.limit faults.TableLimit (table_entries L) (most i))

-- ---- the entry

pub is_sound : (L : LinkedSet) (S : ClosedSet) (o : LinkOptions) (imports : Imports) → IsOver L S o imports
    → (members_fault L 0 L.set.members or_else (duplicate_fault L or_else fault_without (set_entry L.set.members))) ≡ None → IsSound L S o imports
is_sound L S o imports over none = record { over = over; none = (or_none (members_fault L 0 L.set.members) (duplicate_fault L or_else fault_without (set_entry L.set.members)) none).0 }

-- then only the limits are left
pub after_entry : (L : LinkedSet) → (members_fault L 0 L.set.members or_else (duplicate_fault L or_else fault_without (set_entry L.set.members))) ≡ None → link_fault L ≡ limit_fault L
after_entry L none = before_limits L ∙ ap (λ f. f or_else limit_fault L) none

pub same_entry : (L : LinkedSet) (imports : Imports) (entry : ℕ) → AreImportsOf L imports → set_entry (map member_of imports.known.members.now) ≡ Some entry → set_entry L.set.members ≡ Some entry
same_entry L imports entry is found = ap set_entry is.known.over.members ∙ found

-- ---- what the imports stand for

pub is_over : (S : ClosedSet) (o : LinkOptions) (hosts : HostNames) (symbols : Scopes) (members : List Member) (imports : Imports) → IsSet (set_of S) → AreOf (set_of S) symbols → members ≡ S.members
    → (AreOver (linked_set S o hosts) members symbols hosts → AreImportsOf (linked_set S o hosts) imports) → IsOver (linked_set S o hosts) S o imports
is_over S o hosts symbols members imports shape names same exact = record {
  set = refl;
  options = refl;
  shape = shape;
  imported = exact (record { members = ap (map member_of) (sym same); symbols = names; declared = refl });
}
