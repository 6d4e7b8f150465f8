use Rattle.std.proofs.Common.{length, ap, arith}
use Rattle.wasm_form.specs.declared.module.Module.{Module}
use Rattle.merge_index.proofs.lists.imported_counts.Goals as goal

pub overflow_cast-count : goal.overflow_cast-count
overflow_cast-count c =
    let few = c.imported_functions-count.ensures.few in
    let items = ap length c.items.ensures in
    let same = ap (λ (w : Module). length w.imports) c.module.ensures.same in
    let short = c.module.ensures.formed.imports.0 in
    omega arith
