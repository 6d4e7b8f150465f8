use Rattle.std.proofs.Common.{refl, sym, ap, ◌≡◌, ◌∙◌, ◌%◌, Some, Ok}
use Rattle.spec_safety.specs.spec_runtime.Tables.{entry_at}
use Rattle.wasm_machine.proofs.Indirect.{entry_there, entry_exists}
use Rattle.wasm_machine.proofs.calls.entry.Goals as goal

pub type_of-requires : goal.type_of-requires
type_of-requires g c κs =
    let w = g.V.View.seen c.args.view.now in
    let e : entry_at c.table.result.now (c.args.n % 4294967296) ≡ Some (Some c.in-Ok-Some.r) = entry_there _ _ _ (sym c.get.ensures ∙ c.in-Ok-Some.is ∙ ap Ok c.in-Ok-Some.field-0-is) in
    ((refl, tt), entry_exists w.fixed w.units c.args.unit c.args.table _ _ c.in-Ok-Some.r c.requires.holds c.requires.table c.table.ensures e)
