-- The functions of a linked set that want slots, and the slots of all functions.
-- Serves the contracts of this crate, which follow Slots of `spec_linking`.
use Rattle.std.specs.Prelude.{◌≡◌, ℕ, ◌+◌, ◌≤◌, List, length, slice_get, Option}
use Rattle.wasm_form.specs.declared.runtime.Ref.{Ref}
use Rattle.spec_loading.specs.spec_binary.Options.{◌>>=◌}
use Rattle.spec_loading.specs.spec_linking.Plans.{Plan}
use Rattle.spec_loading.specs.spec_linking.LinkedSets.{LinkedSet}
use Rattle.spec_loading.specs.spec_linking.Slots.{outside_refs, slot_of}
use Rattle.dyl_imports.specs.declared.imports.Imports.{Imports}
use Rattle.dyl_slots.specs.declared.wanted.Wanted.{Wanted}
use Rattle.dyl_slots.specs.declared.given.AllSlots.{AllSlots}
use Rattle.dyl_slots.specs.Fresh.{slot_at}
use Rattle.dyl_slots.specs.Given.{IsSegmentedOf, IsSlotsOf, AllAt, fresh_sum}
use Rattle.dyl_slots.specs.Found.{slot_in}
use Rattle.dyl_slots.specs.Outside.{calls_in, hosts_in}

-- what wants slots is what does in a linked set
pub record IsWanted (L : LinkedSet) (w : Wanted) : Type 0 where
  pub count : length w.members.items ≡ length L.set.members
  pub members : AllAt (IsSegmentedOf L) w.members.items
  pub calls : w.outside.calls.items ≡ calls_in (outside_refs L)
  pub hosts : w.outside.hosts ≡ hosts_in (outside_refs L)

-- the index after the fresh slots of the members, and after all slots, where the regions end at this one
abbrev pub fresh_end : Wanted → ℕ → ℕ
fresh_end w end = end + fresh_sum w.members.items

abbrev pub wanted_end : Wanted → ℕ → ℕ
wanted_end w end = fresh_end w end + length w.outside.calls.items + length w.outside.hosts

-- the slots are those of a linked set
pub record AreSlots (L : LinkedSet) (s : AllSlots) : Type 0 where
  pub count : length s.members.items ≡ length L.set.members
  pub members : AllAt (IsSlotsOf L) s.members.items
  pub slots : (r : Ref) → slot_in s.members.items s.hosts.items s.loader r ≡ slot_of L r

-- there are as many bases, and lists of names, as members; these are not too many, and the memory is no larger than it may be
pub record IsRegular (imports : Imports) (plan : Plan) : Type 0 where
  pub bases : length plan.bases ≡ length imports.known.members.now
  pub table_bases : length plan.table_bases ≡ length imports.known.members.now
  pub names : length imports.known.symbols.now.names ≡ length imports.known.members.now
  pub few : length imports.known.members.now ≤ 256
  pub pages : plan.pages ≤ 16384

-- the initial value of an imported global of a member
abbrev pub cell_at : List (List (Option ℕ)) → ℕ → ℕ → Option ℕ
cell_at cells m g = slice_get cells m >>= λ values. slot_at values g
