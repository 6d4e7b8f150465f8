use Rattle.std.proofs.Common.{length, ap, arith}
use Rattle.merge_whole.proofs.built.counts.function_count.Goals as goal

pub overflow_cast-imported : goal.overflow_cast-imported
overflow_cast-imported c =
    let few = c.imported_functions-imported.ensures.few in
    let imports = ap length c.items.ensures in
    let short = c.requires in
    omega arith

pub overflow_add-result : goal.overflow_add-result
overflow_add-result c =
    let few = c.imported_functions-imported.ensures.few in
    let imports = ap length c.items.ensures in
    let funcs = ap length c.items-2.ensures in
    let short = c.requires in
    omega arith
