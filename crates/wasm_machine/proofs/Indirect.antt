-- Calls of the entries of tables.
use Rattle.std.proofs.Common.{◌≡◌, ℕ, ◌<◌, subst, Option, Some, None, Ok}
use Rattle.std.specs.Option.{ok_or}
use Rattle.std.proofs.lemmas.Option.{slice_get_within, get_or_from_slice_get}
use Rattle.wasm_form.specs.declared.runtime.Ref.{Ref}
use Rattle.wasm_form.specs.declared.runtime.Trap.{Trap}
use Rattle.spec_safety.specs.spec_runtime.Tables.{TableInstance, entry_at}
use Rattle.spec_safety.specs.spec_execution.Views.{View}
use Rattle.spec_safety.specs.spec_execution.Ranges.{HoldsAll, Exists, AllExist, ReferenceExists}

pub entry_there : (o : Option (Option Ref)) (t : Trap) (r : Option Ref) → ok_or o t ≡ Ok r → o ≡ Some r
entry_there None t r e = absurd cc
entry_there (Some q) t r e = cc

-- an entry of a table in range names a function that there is
pub entry_exists : {Units : Type 0} (V : View Units) (us : Units) (unit t i : ℕ) (x : TableInstance) (r : Ref) → HoldsAll V us → t < (V.counts unit).tables → Some x ≡ V.table us unit t → entry_at x i ≡ Some (Some r) → Exists V r
entry_exists V us unit t i x r holds h ex e =
    let w = holds.tables unit t h in
    let same : w.0 ≡ x = cc (w.1) in
    let all : AllExist V x.entries = subst (λ (y : TableInstance). AllExist V y.entries) same w.2 in
    subst (ReferenceExists V) (get_or_from_slice_get x.entries i (Some r) None e) (all i None (slice_get_within x.entries i (Some r) e))
