-- What a host table holds.
-- This profile: docs/DECISIONS.md, "The parts of a machine".
use Rattle.std.specs.Prelude.{◌≡◌, ℕ, List, ◌++◌, ◌∷◌, [], map, Option, slice_get, length, IfSome, IsTrue, Bool, true, false}
use Rattle.std.specs.Borrow.{Bor}
use Rattle.std.specs.List.{position_from}
use Rattle.std.specs.declared.dyn_box.DynBox.{DynBox}
use Rattle.std.specs.declared.alloc.Global.{Global}
use Rattle.spec_runtime.specs.Names as names
use Rattle.spec_runtime.specs.Hosts.{numbers_fit}
use Rattle.host_table.specs.Names.{host_name_of, is_called}
use Rattle.host_table.specs.Answers.{AnswersAt, ReplyFits}
use Rattle.host_table.specs.declared.host.Reply.{Reply}
use Rattle.host_table.specs.declared.entry.AddFault.{AddFault}
use Rattle.host_table.specs.declared.entry.AddFault.TheVariants.{SameName, Memory}
use Rattle.host_table.specs.declared.entry.HostTable.{HostTable}

abbrev pub is_same_name : AddFault → Bool
is_same_name SameName = true
is_same_name Memory = false

module _ {X : Type 0} {F : X → Type 0} {g : _} where
  -- the host functions of a table, in order
  abbrev pub functions_of : HostTable X F g → List names.HostName
  functions_of t = map (λ e. host_name_of e.host) t.entries.items

  abbrev pub entry_count : HostTable X F g → ℕ
  entry_count t = length t.entries.items

  -- the number of the entry of a module and a name
  abbrev pub entry_number : HostTable X F g → List ℕ → List ℕ → Option ℕ
  entry_number t from name = position_from (λ e. is_called from name (host_name_of e.host)) 0 t.entries.items

  -- the arguments fit the type of entry n
  abbrev pub FitEntry : HostTable X F g → ℕ → List ℕ → Type 0
  FitEntry t n args = IfSome (slice_get t.entries.items n) (λ e. IsTrue (numbers_fit e.host.ty.params args))

  -- the callback of entry n may give this answer, where `post` is what a call of a callback may give
  abbrev pub GivesAnswer : (DynBox X Global F → Bor (List ℕ) → ℕ → Reply → Type 0) → HostTable X F g → ℕ → List ℕ → ℕ → Reply → Type 0
  GivesAnswer post t n args size r = IfSome (slice_get t.entries.items n) (λ e. AnswersAt (post e.call) args size r)

  -- the answer fits the type of entry n and the size of the memory
  abbrev pub FitsEntry : HostTable X F g → ℕ → ℕ → Reply → Type 0
  FitsEntry t n size r = IfSome (slice_get t.entries.items n) (λ e. ReplyFits e.host.ty size r)

  -- the table with one more entry at its end
  abbrev pub Adds : HostTable X F g → names.HostName → DynBox X Global F → HostTable X F g → Type 0
  Adds old host call new = (e : _) × (host_name_of e.host ≡ host) × (e.call ≡ call) × (new.entries.items ≡ old.entries.items ++ e ∷ [])

  -- the table with the same entries
  abbrev pub IsUnchanged : HostTable X F g → HostTable X F g → Type 0
  IsUnchanged old new = new.entries.items ≡ old.entries.items
