-- How deep blocks are nested in the code of a search, and how much of it there is.
-- Part of the statement of laws: docs/LAWS.md, "Laws of the parts".
use Rattle.std.specs.Prelude.{◌≡◌, ℕ, suc, ◌+◌, ◌*◌, ◌^◌, ◌≤◌, List, [], ◌∷◌, ◌++◌, length, slice_get, Some}
use Rattle.wasm_form.specs.declared.instr.BlockType.TheVariants.{Empty}
use Rattle.wasm_form.specs.declared.instr.Instr.{Instr, Plain, Index, Block, Access}
use Rattle.merge_pieces.specs.Opcodes as op
use Rattle.merge_pieces.specs.Code.{number}
use Rattle.merge_find.specs.Decisions.{Goal, Named, when, search_code}

-- the instructions of a search, but for blocks
pub data IsAsking : Instr → Type 0 where
  gets : (k : ℕ) → IsAsking (Index op.local_get k)
  loads : (i : ℕ) → IsAsking (Access op.i32_load8_u 0 i)
  numbers : (k : ℕ) → IsAsking (number k)
  tests_below : IsAsking (Plain op.i32_lt_u)
  tests_least : IsAsking (Plain op.i32_ge_u)
  tests_other : IsAsking (Plain op.i32_ne)
  leaves : (deep : ℕ) → IsAsking (Index op.br_if deep)

-- Code that is made of these, of the code of some names and of that for no name. Its blocks are nested at most so deep, and it has at most so
-- many instructions, where the code of a name has at most `found`, nested at most `inside`, and that for no name has `missed`, none of them a
-- block.
pub data IsMade (g : Goal) (xs : List Named) (inside found missed : ℕ) : ℕ → ℕ → List Instr → Type 0 where
  nothing : {deep : ℕ} → IsMade g xs inside found missed deep 0 []
  asks : {deep : ℕ} {i : Instr} → IsAsking i → IsMade g xs inside found missed deep 1 (i ∷ [])
  finds : {x : Named} (k : ℕ) → slice_get xs k ≡ Some x → IsMade g xs inside found missed inside found x.1
  misses : IsMade g xs inside found missed 0 missed g.missed
  both : {deep a b : ℕ} {is js : List Instr} → IsMade g xs inside found missed deep a is → IsMade g xs inside found missed deep b js
      → IsMade g xs inside found missed deep (a + b) (is ++ js)
  in_block : {deep size : ℕ} {is : List Instr} → IsMade g xs inside found missed deep size is
      → IsMade g xs inside found missed (suc deep) (suc size) (Block Empty (record { list = is }) ∷ [])
  in_when : {deep size : ℕ} {is : List Instr} → IsMade g xs inside found missed deep size is
      → IsMade g xs inside found missed (suc deep) (suc size) (when is ∷ [])
  within : {deep size more_deep more : ℕ} {is : List Instr} → deep ≤ more_deep → size ≤ more → IsMade g xs inside found missed deep size is
      → IsMade g xs inside found missed more_deep more is

-- five for each byte, and so many for each name
abbrev pub names_cost : ℕ → List Named → ℕ
names_cost each [] = 0
names_cost each (x ∷ xs) = 5 * length x.0 + each + names_cost each xs

-- Among at most 2^n names blocks are nested no deeper than n + 1, whatever the names are, and then as deep as in the code of names. Each name
-- costs five instructions a byte, its code, and a few.
abbrev pub SearchIsSmall : Type 0
SearchIsSmall = (g : Goal) (inside found missed n : ℕ) (xs : List Named) → length xs ≤ 2 ^ n
    → IsMade g xs inside found missed (n + 1 + inside) (missed + names_cost (found + 2 * missed + 10) xs) (search_code g xs)
