-- What follows the opcode of a block.
-- Serves the contracts of this crate, which follow Instructions of `spec_binary`.
use Rattle.std.specs.Prelude.{ℕ, List}
use Rattle.wasm_form.specs.declared.instr.BlockType.{BlockType}
use Rattle.wasm_form.specs.declared.instr.Expr.{Expr}
use Rattle.spec_reading.specs.spec_binary.Instructions.{SpellsBlockType, SpellsInstrs}
use Rattle.spec_reading.specs.spec_binary.Joined.{IsByte, Joined}

-- the type, the instructions, and the byte that ends them
abbrev pub IsBody : BlockType → Expr → List ℕ → Type 0
IsBody t e = Joined (SpellsBlockType t) (Joined (SpellsInstrs e.list) (IsByte 0x0B))

-- the same with the instructions of `else`
abbrev pub IsBodies : BlockType → Expr → Expr → List ℕ → Type 0
IsBodies t e other = Joined (SpellsBlockType t) (Joined (SpellsInstrs e.list) (Joined (IsByte 0x05) (Joined (SpellsInstrs other.list) (IsByte 0x0B))))
