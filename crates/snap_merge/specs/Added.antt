-- What the loader keeps, as the merged module has it behind what the members have.
-- Serves the contracts of this crate, which follow Parts of `snap_set`.
use Rattle.std.specs.Prelude.{◌≡◌, ℕ, List, [], ◌∷◌, map, slice_get, nat_eq, ◌&&◌, Option, Some, None, Bool, false}
use Rattle.spec_loading.specs.wasm_form.declared.module.Module.{Module}
use Rattle.spec_loading.specs.wasm_form.declared.runtime.Value.TheVariants.{Num}
use Rattle.spec_loading.specs.spec_linking.LinkedSets.{LinkedSet}
use Rattle.spec_loading.specs.spec_linking.Slots.{fresh_of}
use Rattle.spec_loading.specs.Loading.{LoaderState}
use Rattle.merge_start.specs.Started.{place_of}
use Rattle.snap_parts.specs.Built.{is_left}
use Rattle.snap_set.specs.Parts.{more_of}
use Rattle.snap_merge.specs.declared.added.Behind.{Behind}

-- the place of a member among the promoted ones
abbrev pub one_place : List ℕ → ℕ → Module → List ℕ
one_place promoted m wasm = place_of promoted m ∷ []

-- whether the segment of the fresh slots of a member is left, by its stage and by whether there are such slots
abbrev pub left_at : Option ℕ → Bool → Bool
left_at None some = false
left_at (Some stage) some = nat_eq stage 0 && some

abbrev pub left_by : List ℕ → LinkedSet → ℕ → Bool
left_by stages L m = left_at (slice_get stages m) (is_left (fresh_of L m))

abbrev pub one_left : List ℕ → LinkedSet → ℕ → Module → List Bool
one_left stages L m wasm = left_by stages L m ∷ []

-- these are behind what the members have, of a loader that keeps this
pub record IsBehind (L : LinkedSet) (loader : LoaderState) (b : Behind) : Type 0 where
  pub globals : (more_of L loader).globals ≡ map Num b.globals.items
  pub left : map is_left (more_of L loader).elems ≡ b.left.items
