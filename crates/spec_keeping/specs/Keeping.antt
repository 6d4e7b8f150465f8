-- What the run of a linked set keeps of its store: how many globals and tables there are, the maxima of the tables and of the memory, and the
-- segments but for those that are dropped.
-- Part of the statement of laws: docs/LAWS.md, "Laws of the parts".
use Rattle.std.specs.Prelude.{◌≡◌, ◌⊎◌, ℕ, List, [], ◌∷◌, length, map}
use Rattle.spec_loading.specs.wasm_form.declared.runtime.Answer.{Answer}
use Rattle.spec_loading.specs.spec_runtime.Tables.{TableInstance}
use Rattle.spec_loading.specs.spec_execution.Instances.{ModuleParts}
use Rattle.spec_loading.specs.spec_linking.LinkedSets.{LinkedSet}
use Rattle.spec_loading.specs.spec_linking.Slots.{linked_plan}
use Rattle.spec_loading.specs.Members.{opening_store}
use Rattle.spec_loading.specs.LoadedSet.{SetState, set_run}

-- as many lists, each what it was, or empty
abbrev pub AreLeft : {A : Type 0} → List (List A) → List (List A) → Type 0
AreLeft [] [] = Unit {0}
AreLeft [] (y ∷ ys) = ⊥
AreLeft (x ∷ xs) [] = ⊥
AreLeft (x ∷ xs) (y ∷ ys) = ((y ≡ []) ⊎ (y ≡ x)) × AreLeft xs ys

abbrev pub most_of : TableInstance → ℕ
most_of table = table.max

-- the parts of a store now, beside those of before
pub record IsKept (before now : ModuleParts) : Type 0 where
  pub globals : length now.globals ≡ length before.globals
  pub tables : map most_of now.tables ≡ map most_of before.tables
  pub elems : AreLeft before.elems now.elems
  pub datas : AreLeft before.datas now.datas

-- the store and the memory of a state, beside those with which the set begins
pub record KeepsOpening (L : LinkedSet) (s : SetState) : Type 0 where
  pub store : IsKept (opening_store L) s.run.units
  pub memory : s.run.memory.max ≡ (linked_plan L).pages_max

-- So it is at each state of the run, over any answers (WebAssembly Core 2.0, sections 4.2.7, 4.2.8 and 4.4.6 to 4.4.8).
abbrev pub SetRunKeeps : Type 0
SetRunKeeps = (L : LinkedSet) (answers : List Answer) (n : ℕ) → KeepsOpening L (set_run L answers n).state
