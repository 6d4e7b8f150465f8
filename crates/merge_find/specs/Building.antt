-- What is kept while the code of a search is built.
-- Serves the contracts of this crate, which follow Decisions of `merge_find`.
use Rattle.std.specs.Prelude.{◌≡◌, ℕ, ◌+◌, ◌*◌, ◌^◌, ◌<◌, ◌≤◌, List, ◌∷◌, length, map, Bool, true, false}
use Rattle.std.specs.List.{All}
use Rattle.wasm_form.specs.declared.instr.Instr.{Instr, Index}
use Rattle.merge_pieces.specs.Opcodes as op
use Rattle.merge_pieces.specs.Code.{number}
use Rattle.merge_find.specs.Decisions.{Goal, Named, Nested, wide, return_code, halved, by_bytes, found_code}
use Rattle.merge_find.specs.Finding.{IsText}
use Rattle.merge_find.specs.declared.key.Key.{Key}
use Rattle.merge_find.specs.declared.key.Key.TheVariants.{Size, Byte}
use Rattle.merge_find.specs.declared.place.Place.{Place}
use Rattle.merge_find.specs.declared.place.Stage.{Stage}
use Rattle.merge_find.specs.declared.place.Stage.TheVariants as stage
use Rattle.merge_find.specs.declared.named.Named as kept
use Rattle.merge_find.specs.declared.building.Rest.{Rest}
use Rattle.merge_find.specs.declared.search.Search.{Search}
use Rattle.merge_find.specs.declared.search.Missed.{Missed}
use Rattle.merge_find.specs.declared.search.Missed.TheVariants.{Zero, Fault}

-- ---- names

abbrev pub name_of : kept.Named → Named
name_of n = (n.name, n.code.items)

abbrev pub names_of : List kept.Named → List Named
names_of ns = map name_of ns

abbrev pub HasText : kept.Named → Type 0
HasText n = IsText n.name

-- ---- what the search is for

abbrev pub missed_code : Missed → List Instr
missed_code Zero = wide 0 ∷ return_code
missed_code (Fault error global) = number error ∷ Index op.global_set global ∷ number 0 ∷ return_code

abbrev pub goal_of : Search → Goal
goal_of s = record { len = s.len; missed = missed_code s.missed }

-- ---- where the search stands

abbrev pub stage_code : Goal → Stage → ℕ → ℕ → List Named → Nested
stage_code g stage.Lengths w least xs = halved g.len Size (λ k. by_bytes g k 0) w least xs
stage_code g (stage.Bytes i left) w least xs = halved g.len (Byte i) (λ b. by_bytes g left (i + 1)) w least xs
stage_code g stage.Done w least xs = λ deep. found_code g xs

-- the code for these names, from here on
unfoldable pub place_code : Goal → Place → List Named → List Instr
place_code g p xs = stage_code g p.stage p.width p.least xs p.deep

abbrev pub IsStage : Stage → ℕ → ℕ → Type 0
IsStage stage.Lengths w least = (w ≤ 32) × (least + 2 ^ w ≤ 2 ^ 32)
IsStage (stage.Bytes i left) w least = (i + left + 1 < 2 ^ 32) × (w ≤ 8) × (least + 2 ^ w ≤ 256)
IsStage stage.Done w least = w ≡ 0

abbrev pub IsPlace : Place → Type 0
IsPlace p = IsStage p.stage p.width p.least

abbrev pub stage_rank : Stage → ℕ → ℕ
stage_rank stage.Lengths w = 9 * 2 ^ 32 + 9 + w
stage_rank (stage.Bytes i left) w = 9 * left + w + 1
stage_rank stage.Done w = 0

-- how many questions may come
abbrev pub rank : Place → ℕ
rank p = stage_rank p.stage p.width

abbrev pub is_asking : Place → Bool
is_asking p = go p.stage
  where
    go : Stage → Bool
    go stage.Done = false
    go _ = true

abbrev pub key_at : Place → Key
key_at p = go p.stage
  where
    go : Stage → Key
    go (stage.Bytes i left) = Byte i
    go _ = Size

abbrev pub rest_code : Goal → Rest → List Instr
rest_code g r = place_code g r.place (names_of r.names.items)

-- There is a name, and each is of bytes. At each block that is entered there are at most half as many names.
pub record IsRest (r : Rest) : Type 0 where
  pub place : IsPlace r.place
  pub some : 0 < length r.names.items
  pub texts : All HasText r.names.items
  pub few : 2 ^ r.place.deep * length r.names.items ≤ 2 ^ 64
