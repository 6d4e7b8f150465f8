-- What the callback of a host table answers to a host call.
-- This profile: docs/DECISIONS.md, "The parts of a machine".
use Rattle.std.specs.Prelude.{◌≡◌, ℕ, List, [], ◌∷◌, length, slice_get, Option, Some, None, IsSomeAnd}
use Rattle.std.specs.Borrow.{Bor}
use Rattle.std.specs.declared.dyn_box.DynBox.{DynBox}
use Rattle.std.specs.declared.alloc.Global.{Global}
use Rattle.spec_hosts.specs.wasm_form.declared.types.ValType.{ValType}
use Rattle.spec_hosts.specs.wasm_form.declared.types.FuncType.{FuncType}
use Rattle.spec_hosts.specs.wasm_form.declared.runtime.Write.{Write}
use Rattle.spec_hosts.specs.wasm_form.declared.runtime.Answer.{Answer}
use Rattle.spec_hosts.specs.wasm_form.declared.runtime.Answer.TheVariants as answers
use Rattle.spec_hosts.specs.spec_runtime.Memories.{MemoryInstance, little}
use Rattle.spec_hosts.specs.spec_runtime.Hosts.{HostCall}
use Rattle.host_table.specs.declared.host.Put.{Put}
use Rattle.host_table.specs.declared.host.Reply.{Reply}
use Rattle.host_table.specs.declared.entry.HostTable.{HostTable}
use Rattle.host_table.specs.Table.{entry_number, GivesAnswer}

abbrev pub results_of : List ValType → ℕ → List ℕ
results_of [] n = []
results_of (t ∷ ts) n = n ∷ []

abbrev pub writes_of : Option Put → List Write
writes_of None = []
writes_of (Some p) = record { at = p.at; bytes = little p.len p.bytes } ∷ []

-- the answer of a reply: its result, where the type has one, and its put as the one write
abbrev pub answer_of : FuncType → Reply → Answer
answer_of ty r = answers.Reply (results_of ty.results r.result) (writes_of r.put)

module _ {X : Type 0} {F : X → Type 0} {g : _} where
  -- the host function of entry n has this type
  abbrev pub HasType : HostTable X F g → ℕ → FuncType → Type 0
  HasType t n ty = IsSomeAnd (slice_get t.entries.items n) (λ e. e.host.ty ≡ ty)

  -- The callback of the function that is called may give this answer for the arguments and the size of the memory, where `post` is
  -- what a call of a callback may give.
  abbrev pub AnswersCall : (DynBox X Global F → Bor (List ℕ) → ℕ → Reply → Type 0) → HostTable X F g → HostCall → MemoryInstance → Answer → Type 0
  AnswersCall post t call memory answer =
      (n : ℕ) × (r : Reply) × (entry_number t call.host.module_name call.host.name ≡ Some n) × GivesAnswer post t n call.args (length memory.bytes) r × (answer ≡ answer_of call.host.ty r)
