-- The numbers of an instruction that is in range.
use Rattle.std.proofs.Common.{◌≡◌, Bool, true, ◌&&◌, refl, sym, ◌∙◌}
use Rattle.std.specs.Prelude.{IsTrue}
use Rattle.std.proofs.lemmas.Bool.{and_parts}
use Rattle.wasm_form.specs.declared.instr.Instr.{Instr, out-Instr}
use Rattle.wasm_form.specs.declared.instr.Instr.TheOpen as Open
use Rattle.wasm_form.specs.declared.instr.Expr.{Expr}
use Rattle.spec_safety.specs.spec_execution.Views.{Counts}
use Rattle.spec_safety.specs.spec_execution.Ranges.{block_in_range, in_range_here, in_range, or_true}
use Rattle.spec_safety.proofs.Levels.{inside_else, with_inside, all_in_range, in_range_level}
use Rattle.wasm_step.specs.Named.{named_here}

pub and_first : (a b : Bool) → (a && b) ≡ true → a ≡ true
and_first a b h = (and_parts a b h).0

pub and_second : (a b : Bool) → (a && b) ≡ true → b ≡ true
and_second a b h = (and_parts a b h).1

named_at : (c : Counts) (x : Open.Instr-F Instr Expr) → in_range_here c (with_inside (all_in_range c) x) ≡ true → named_here c x ≡ true
named_at c (Open.Index op n) h = h
named_at c (Open.Block t e) h = and_first (block_in_range c t) (all_in_range c e.list) h
named_at c (Open.Loop t e) h = and_first (block_in_range c t) (all_in_range c e.list) h
named_at c (Open.If t e other) h = and_first (block_in_range c t) (all_in_range c e.list) (and_first (block_in_range c t && all_in_range c e.list) (or_true (inside_else (all_in_range c) other)) h)
named_at c (Open.CallIndirect ty table) h = h
named_at c (Open.Prefixed op x y) h = h
named_at c (Open.Plain op) h = refl
named_at c (Open.BrTable ks last) h = refl
named_at c (Open.Select ts) h = refl
named_at c (Open.Access op align offset) h = refl
named_at c Open.MemorySize h = refl
named_at c Open.MemoryGrow h = refl
named_at c (Open.I32Const n) h = refl
named_at c (Open.I64Const n) h = refl
named_at c (Open.F32Const bits) h = refl
named_at c (Open.F64Const bits) h = refl
named_at c (Open.RefNull t) h = refl

-- the numbers of an instruction in range are in range
pub named_in_range : (c : Counts) (i : Instr) → IsTrue (in_range c i) → IsTrue (named_here c (out-Instr i))
named_in_range c i h = named_at c (out-Instr i) (sym (in_range_level c i) ∙ h)
