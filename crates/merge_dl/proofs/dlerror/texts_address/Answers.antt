use Rattle.std.proofs.Common.{ap, arith}
use Rattle.spec_loading.specs.spec_linking.Plans.{Plan}
use Rattle.merge_dl.proofs.Making.{texts_within}
use Rattle.merge_dl.proofs.dlerror.texts_address.Goals as goal

pub returns-clause-fits : goal.returns-clause-fits
returns-clause-fits c =
    let within = texts_within c.args.linked.now in
    let top = ap (λ (p : Plan). p.stack_top) c.plan-2.ensures in
    let heap = ap (λ (p : Plan). p.heap_base) c.plan.ensures in
    omega (arith, c.texts.ensures, c.heap_base-heap.ensures)
