-- What is found of a linked set: slots, and the initial values of cells.
-- Serves the contracts of this crate, which follow Slots of `spec_linking`.
use Rattle.std.specs.Prelude.{◌≡◌, ℕ, ◌+◌, ◌≤◌, ◌^◌, ◌%◌, List, [], ◌∷◌, ◌++◌, map, length, slice_get, Option, Some, None}
use Rattle.wasm_form.specs.declared.module.ImportDesc.{ImportDesc}
use Rattle.wasm_form.specs.declared.module.Import.{Import}
use Rattle.wasm_form.specs.declared.module.Module.{Module}
use Rattle.wasm_form.specs.declared.runtime.LoaderCall.{LoaderCall}
use Rattle.wasm_form.specs.declared.runtime.LoaderCall.TheVariants.{Dlopen, Dlsym, Dlclose, Dlerror}
use Rattle.wasm_form.specs.declared.runtime.Ref.{Ref}
use Rattle.wasm_form.specs.declared.runtime.Ref.TheVariants.{Own, Loader, Host, Stub}
use Rattle.spec_loading.specs.spec_binary.Options.{◌>>=◌}
use Rattle.spec_loading.specs.spec_binary.IndexSpaces.{globals_in}
use Rattle.spec_loading.specs.spec_linking.Plans.{Plan}
use Rattle.spec_loading.specs.spec_linking.LinkedSets.{LinkedSet, wasm_of}
use Rattle.spec_loading.specs.spec_linking.Slots.{linked_plan, slot_of, initial_number}
use Rattle.dyl_imports.specs.Kept.{AreImportsOf}
use Rattle.dyl_slots.specs.declared.cells.Known.{Known}
use Rattle.dyl_slots.specs.declared.tables.LoaderSlots.{LoaderSlots}
use Rattle.dyl_slots.specs.declared.tables.MemberSlots.{MemberSlots}
use Rattle.dyl_slots.specs.Fresh.{slot_at}

-- ---- slots

abbrev pub loader_slot_in : LoaderSlots → LoaderCall → Option ℕ
loader_slot_in slots Dlopen = slots.opens
loader_slot_in slots Dlsym = slots.searches
loader_slot_in slots Dlclose = slots.closes
loader_slot_in slots Dlerror = slots.errors

abbrev pub own_slot_in : List MemberSlots → ℕ → ℕ → Option ℕ
own_slot_in members m f = slice_get members m >>= λ x. slot_at x.slots f

abbrev pub slot_in : List MemberSlots → List (Option ℕ) → LoaderSlots → Ref → Option ℕ
slot_in members hosts loader (Own m f) = own_slot_in members m f
slot_in members hosts loader (Loader call) = loader_slot_in loader call
slot_in members hosts loader (Host n) = slot_at hosts n
slot_in members hosts loader (Stub m f) = None

-- ---- cells

abbrev pub address_in : Plan → ℕ → ℕ → Option ℕ
address_in plan m place = slice_get plan.bases m >>= λ base. Some ((base + place) % 2 ^ 32)

-- what cells are made of is what there is of a linked set
pub record IsKnownOf (L : LinkedSet) (k : Known) : Type 0 where
  pub imports : AreImportsOf L k.imports.now
  pub plan : k.plan.now ≡ linked_plan L
  pub slots : (r : Ref) → slot_in k.slots.members.now k.slots.hosts.now k.slots.loader r ≡ slot_of L r

-- the lists are as long as there are members, and the memory is no larger than it may be
pub record FitsKnown (k : Known) : Type 0 where
  pub bases : length k.plan.now.bases ≡ length k.slots.members.now
  pub table_bases : length k.plan.now.table_bases ≡ length k.slots.members.now
  pub names : length k.imports.now.known.symbols.now.names ≡ length k.slots.members.now
  pub pages : k.plan.now.pages ≤ 16384

-- the initial value that an import gives, where it is a global
abbrev pub initial_in : LinkedSet → ℕ → Import → ImportDesc → List (Option ℕ)
initial_in L m i desc = map (λ g. initial_number L m i) (globals_in desc)

abbrev pub initial_values : LinkedSet → ℕ → List Import → List (Option ℕ)
initial_values L m [] = []
initial_values L m (i ∷ is) = initial_in L m i i.desc ++ initial_values L m is

-- the initial values of the imported globals of member m
abbrev pub IsCellsOf : LinkedSet → ℕ → List (Option ℕ) → Type 0
IsCellsOf L m cells = (wasm : Module) → wasm_of L m ≡ Some wasm → cells ≡ initial_values L m wasm.imports
