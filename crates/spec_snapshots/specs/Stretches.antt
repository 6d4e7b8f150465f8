-- What is written of long lists, so that little is written where one item stands almost everywhere.
-- This profile: docs/FORMATS.md, "The snapshot".
use Rattle.std.specs.Prelude.{◌≡◌, ◌≢◌, ℕ, ◌+◌, ◌-◌, ◌/◌, ◌<◌, ◌≤◌, List, [], ◌∷◌, ◌++◌, length, take, drop, replicate, max, slice_index_or, sum_by, Option, None}
use Rattle.std.specs.List.{All}
use Rattle.spec_loading.specs.wasm_form.declared.runtime.Ref.{Ref}
use Rattle.spec_loading.specs.spec_runtime.Memories.{MemoryInstance, pages}
use Rattle.spec_loading.specs.spec_runtime.Tables.{TableInstance}

-- ---- stretches that make a list

-- items that stand from a place on
pub record Stretch (A : Type 0) : Type 0 where
  pub at : ℕ
  pub items : List A

-- the list with the items of a stretch in their places
abbrev pub put : {A : Type 0} → List A → Stretch A → List A
put xs s = take s.at xs ++ (s.items ++ drop (s.at + length s.items) xs)

abbrev pub all_put : {A : Type 0} → List A → List (Stretch A) → List A
all_put xs [] = xs
all_put xs (s ∷ ss) = all_put (put xs s) ss

-- it ends within a list of this length, and is not empty
pub record IsWithin {A : Type 0} (len : ℕ) (s : Stretch A) : Type 0 where
  pub some : 0 < length s.items
  pub ends : s.at + length s.items ≤ len

-- Stretches make a list: each is within it, and put in order onto a list of the same length with this one item everywhere they give it. So
-- where no stretch is, the list has this item.
pub record Make {A : Type 0} (everywhere : A) (ss : List (Stretch A)) (xs : List A) : Type 0 where
  pub within : All (IsWithin (length xs)) ss
  pub give : all_put (replicate (length xs) everywhere) ss ≡ xs

-- ---- of which little is written

-- The items of a stretch are those of the list. It begins and ends with an item that isn't blank, and holds no run of more than `gap` blank ones.
pub record IsPart {A : Type 0} (blank : A) (gap : ℕ) (xs : List A) (s : Stretch A) : Type 0 where
  pub items : s.items ≡ take (length s.items) (drop s.at xs)
  pub first : slice_index_or s.items 0 blank ≢ blank
  pub last : slice_index_or s.items (length s.items - 1) blank ≢ blank
  pub runs : (k : ℕ) → k + gap < length s.items → ((j : ℕ) → j ≤ gap → slice_index_or s.items (k + j) blank ≡ blank) → ⊥

-- the stretches begin at this place or behind it, and between two of them stand more than `gap` items
abbrev pub AreApart : {A : Type 0} → ℕ → ℕ → List (Stretch A) → Type 0
AreApart gap from [] = Unit {0}
AreApart gap from (s ∷ ss) = (from ≤ s.at) × AreApart gap (s.at + length s.items + gap + 1) ss

-- The stretches make the list, which is blank wherever they give nothing, and give no long run of blank items.
pub record IsSparse {A : Type 0} (blank : A) (gap : ℕ) (xs : List A) (ss : List (Stretch A)) : Type 0 where
  pub made : Make blank ss xs
  pub parts : All (IsPart blank gap xs) ss
  pub apart : AreApart gap 0 ss

-- ---- of a memory and of tables

-- what is written of the memory, and of each table
pub record Contents : Type 0 where
  pub memory : List (Stretch ℕ)
  pub tables : List (List (Stretch (Option Ref)))

-- the longest run of zeros that is written of a memory, so that there are at most 65,536 stretches
abbrev pub memory_gap : MemoryInstance → ℕ
memory_gap memory = max 16 (pages memory)

abbrev pub entries : TableInstance → ℕ
entries table = length table.entries

-- and that of null entries, by all tables
abbrev pub tables_gap : List TableInstance → ℕ
tables_gap tables = max 16 (sum_by entries tables / 16384)

abbrev pub AreSparse : ℕ → List TableInstance → List (List (Stretch (Option Ref))) → Type 0
AreSparse gap [] [] = Unit {0}
AreSparse gap (x ∷ xs) (ss ∷ more) = IsSparse None gap x.entries ss × AreSparse gap xs more
AreSparse gap _ _ = ⊥

-- what is written of a memory and of tables
pub record IsWritten (memory : MemoryInstance) (tables : List TableInstance) (c : Contents) : Type 0 where
  pub memory_is : IsSparse 0 (memory_gap memory) memory.bytes c.memory
  pub tables_are : AreSparse (tables_gap tables) tables c.tables
