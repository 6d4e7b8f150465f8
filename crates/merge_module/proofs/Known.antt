-- What is known of a linked set: that its members name only what there is, with the types that they give it, and that its plan fits.
use Rattle.std.proofs.Common.{◌≡◌, ℕ, ◌+◌, ◌*◌, ◌<◌, ◌≤◌, length, slice_get, Option, Some}
use Rattle.std.specs.Prelude.{IfSome}
use Rattle.spec_reading.specs.wasm_form.declared.types.FuncType.{FuncType}
use Rattle.spec_reading.specs.wasm_form.declared.runtime.Ref.{Ref}
use Rattle.spec_reading.specs.wasm_form.declared.runtime.Ref.TheVariants.{Own}
use Rattle.spec_reading.specs.spec_binary.Indices.{function_type}
use Rattle.spec_loading.specs.spec_runtime.Memories.{page_size}
use Rattle.spec_loading.specs.spec_execution.Views.{type_of}
use Rattle.spec_loading.specs.spec_execution.Ranges.{HoldsAll}
use Rattle.spec_loading.specs.spec_linking.Sets.{Member}
use Rattle.spec_loading.specs.spec_linking.Gathering.{IsSet}
use Rattle.spec_loading.specs.spec_linking.LinkedSets.{LinkedSet}
use Rattle.spec_loading.specs.spec_linking.Slots.{linked_plan, table_entries}
use Rattle.spec_loading.specs.spec_linking.Links.{Links}
use Rattle.spec_loading.specs.spec_safety.Laws.{AreThere}
use Rattle.spec_loading.specs.declared.task.Phase.{Phase}
use Rattle.spec_loading.specs.Members.{set_instances, set_view, opening_table, opening_store}
use Rattle.spec_loading.specs.LoadedSet.{first_slot, own_functions, set_loading, opening_memory}
use Rattle.spec_loading.specs.Laws.{LinkedIsThere, LinkedIsTyped, IsCallable, CalleesAreThere, EntryIsThere, OpeningHolds, SizesArePlanned, SlotsFit}
use Rattle.merge_start.specs.Laws.{SetsRunAsMerged, SetsRunWithin, UnusedIsAnswered}
use Rattle.merge_start.specs.Typed.{GeneratedIsTyped}
use Rattle.merge_dl.specs.Laws.{LengthsAreGiven, MembersAreSearchedSoon, LoaderIsAnswered}
use Rattle.merge_find.specs.Shape.{SearchIsSmall}
use Rattle.merge_dl.specs.Typed.{LoaderIsTyped}

pub record IsKnown (L : LinkedSet) : Type 0 where
  pub set : IsSet L.set
  pub links : Links L
  pub there : AreThere (set_instances L)
  pub typed : (m f : ℕ) (member : Member) (ty : FuncType) → slice_get L.set.members m ≡ Some member → function_type member.wasm f ≡ Some ty
      → (r : Ref) × ((set_view L).target m f ≡ Some r) × (type_of (set_view L) r ≡ Some ty)
  pub callees : (phase : Phase) (m : ℕ) → m < length L.set.members → (o : Option Ref) × ((set_loading L).callee phase m ≡ Some o) × IfSome o (IsCallable L)
  pub entry : (f : ℕ) × ((set_loading L).entry ≡ Some (Own 0 f)) × IsCallable L (Own 0 f)
  pub holds : HoldsAll (set_view L) (opening_store L)
  pub memory : length (opening_memory L).bytes ≡ (linked_plan L).pages * page_size
  pub table : length (opening_table L).entries ≡ table_entries L
  pub slots : (m : ℕ) → m < length L.set.members → first_slot L m + length (own_functions L m) ≤ length (opening_table L).entries

-- the laws of linked sets
pub record HasLaws : Type 0 where
  pub there : LinkedIsThere
  pub typed : LinkedIsTyped
  pub callees : CalleesAreThere
  pub entry : EntryIsThere
  pub holds : OpeningHolds
  pub sizes : SizesArePlanned
  pub slots : SlotsFit

pub known : HasLaws → (L : LinkedSet) → IsSet L.set → Links L → IsKnown L
known laws L set links = record {
  set = set;
  links = links;
  there = laws.there L set links;
  typed = laws.typed L set links;
  callees = laws.callees L set links;
  entry = laws.entry L set links;
  holds = laws.holds L set links;
  memory = (laws.sizes L).0;
  table = (laws.sizes L).1;
  slots = laws.slots L;
}

-- the laws of generated code
pub record HasCodeLaws : Type 0 where
  pub runs : SetsRunAsMerged
  pub within : SetsRunWithin
  pub unused : UnusedIsAnswered
  pub lengths : LengthsAreGiven
  pub searches : MembersAreSearchedSoon
  pub answered : LoaderIsAnswered
  pub generated : GeneratedIsTyped
  pub loader : LoaderIsTyped
  pub small : SearchIsSmall
