-- What a host function must do for each call that its type allows.
-- This profile: docs/DECISIONS.md, "The parts of a machine".
use Rattle.std.specs.Prelude.{◌≡◌, ◌<◌, ◌≤◌, ◌+◌, ℕ, List, [], ◌∷◌, Option, Some, Bool, false, IsTrue, nat_eq}
use Rattle.std.specs.Borrow.{Bor}
use Rattle.spec_runtime.specs.wasm_form.declared.types.ValType.{ValType}
use Rattle.spec_runtime.specs.wasm_form.declared.types.FuncType.{FuncType}
use Rattle.spec_runtime.specs.Hosts.{number_fits, numbers_fit}
use Rattle.host_table.specs.declared.host.Put.{Put}
use Rattle.host_table.specs.declared.host.Reply.{Reply}

-- the result is of the one type, and 0 where there is none
abbrev pub result_fits : List ValType → ℕ → Bool
result_fits [] n = nat_eq n 0
result_fits (t ∷ []) n = number_fits t n
result_fits (t ∷ u ∷ ts) n = false

-- what is written has 1 to 8 bytes, inside a memory of this many bytes
abbrev pub PutFits : ℕ → Option Put → Type 0
PutFits size put = (p : Put) → put ≡ Some p → (0 < p.len) × (p.len ≤ 8) × (p.at + p.len ≤ size)

-- the result fits the type, and what is written lies inside a memory of this many bytes
pub record ReplyFits (ty : FuncType) (size : ℕ) (r : Reply) : Type 0 where
  pub result_fits : IsTrue (result_fits ty.results r.result)
  pub put_fits : PutFits size r.put

-- For all arguments that fit the type and every size of the memory, the function may be called, and its answer fits.
pub record Keeps (pre : Bor (List ℕ) → ℕ → Type 0) (post : Bor (List ℕ) → ℕ → Reply → Type 0) (ty : FuncType) : Type 0 where
  pub callable : (args : Bor (List ℕ)) (size : ℕ) → IsTrue (numbers_fit ty.params args.now) → size ≤ 4294967296 → pre args size
  pub fits : (args : Bor (List ℕ)) (size : ℕ) (r : Reply) → IsTrue (numbers_fit ty.params args.now) → size ≤ 4294967296 → post args size r → ReplyFits ty size r

-- the function may give this answer at arguments with these values
abbrev pub AnswersAt : (Bor (List ℕ) → ℕ → Reply → Type 0) → List ℕ → ℕ → Reply → Type 0
AnswersAt post args size r = (shown : Bor (List ℕ)) × (shown.now ≡ args) × post shown size r
