use Rattle.std.proofs.Common.{sym, ◌∙◌}
use Rattle.spec_safety.specs.spec_binary.Exports.{start_name}
use Rattle.wasm_single.proofs.Entries.{own_is_function}
use Rattle.wasm_single.proofs.load.entry_of.Goals as goal

pub func_type-requires : goal.func_type-requires
func_type-requires c =
    let m = c.args.checked.now in
    let found = rw c.module.ensures.same at (sym c.exported_function.ensures ∙ c.in_ok-f.was) in
    (own_is_function m start_name c.in_ok-f.f found).inside
