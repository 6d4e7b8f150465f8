-- What a linked set is made of, and when it is that of a set which links.
-- Serves the contracts of this crate, which follow Links of `spec_linking`.
use Rattle.std.specs.Prelude.{◌≡◌, ◌≤◌}
use Rattle.wasm_form.specs.declared.runtime.LoaderCall.TheVariants.{Dlopen, Dlerror, Dlclose}
use Rattle.spec_loading.specs.spec_execution.Views.{loader_type}
use Rattle.spec_loading.specs.spec_linking.Gathering.{IsSet}
use Rattle.spec_loading.specs.spec_linking.LinkedSets.{LinkedSet}
use Rattle.spec_loading.specs.spec_linking.Slots.{linked_plan}
use Rattle.spec_loading.specs.spec_linking.Links.{Links}
use Rattle.dyl_slots.specs.host_table.Names.{HaveIntegers}
use Rattle.dyl_slots.specs.dyl_scope.Scopes.{AreOf}
use Rattle.dyl_link.specs.declared.linked_set.LoaderTypes.{LoaderTypes}
use Rattle.dyl_link.specs.declared.linked_set.Ready.{Ready}
use Rattle.dyl_link.specs.declared.linked_set.Parts.{Parts}
use Rattle.dyl_link.specs.Sets.{linked_set}
use Rattle.dyl_link.specs.Steps.{IsFoundOf}

-- the types are those of the functions of the loader
abbrev pub AreTypes : LoaderTypes → Type 0
AreTypes t = (t.two ≡ loader_type Dlopen) × (t.one ≡ loader_type Dlclose) × (t.none ≡ loader_type Dlerror)

-- this is what there is of a linked set
pub record IsReady (L : LinkedSet) (r : Ready) : Type 0 where
  pub symbols : AreOf L.set r.symbols
  pub types : AreTypes r.types
  pub found : IsFoundOf L r.found

-- the set that is kept
abbrev pub set_in : Parts → LinkedSet
set_in p = linked_set p.set p.options p.names

-- a set links, its memory has 16,384 pages at most, its host names have integers alone, and what is kept is what there is of it
pub record IsLinked (L : LinkedSet) (r : Ready) : Type 0 where
  pub shape : IsSet L.set
  pub links : Links L
  pub pages : (linked_plan L).pages_max ≤ 16384
  pub integers : HaveIntegers L.names
  pub ready : IsReady L r
