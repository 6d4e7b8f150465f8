-- What stands at an index.
use Rattle.std.proofs.Common.{◌≡◌, ◌<◌, ℕ, zero, suc, List, [], ◌∷◌, length, slice_get, get_or, Some, sym, ap, arith}
use Rattle.wasm_form.specs.declared.module.Module.{Module}

-- what stands at an index within
pub at_index : {A : Type 0} (xs : List A) (i : ℕ) (x : A) → i < length xs → x ≡ get_or xs i x → slice_get xs i ≡ Some x
at_index [] i x lt e = absurd (omega arith)
at_index (y ∷ xs) zero x lt e = ap Some (sym e)
at_index (y ∷ xs) (suc i) x lt e = at_index xs i x (omega arith) e

pub one_module : (a b : Module) → Some a ≡ Some b → a ≡ b
one_module a b e = cc
