use Rattle.std.proofs.Common.{ap, ap₂, ◌∙◌, arith}
use Rattle.spec_loading.specs.spec_linking.Plans.{Plan}
use Rattle.spec_loading.specs.spec_runtime.Memories.{new_memory}
use Rattle.dyl_store.proofs.Opened.{pages_fit, texts_lie, memory_is}
use Rattle.dyl_store.proofs.opening.memory_of.Goals as goal

pub new-requires-clause-within : goal.new-requires-clause-within
new-requires-clause-within c =
    rw (c.pages.ensures, c.pages_max.ensures) (pages_fit c.args.linked.now c.plan-plan.result.now c.plan-plan.ensures c.links.ensures.links)

pub new-requires-clause-most : goal.new-requires-clause-most
new-requires-clause-most c =
    let same = ap (λ (p : Plan). p.pages_max) c.plan-plan.ensures in
    omega (arith, c.pages_max.ensures, c.has_few_pages.ensures, same)

pub put-requires : goal.put-requires
put-requires c =
    let fresh = c.in_ok-memory.ensures ∙ ap₂ new_memory c.pages.ensures c.pages_max.ensures in
    texts_lie c.args.linked.now c.plan-plan.result.now c.plan-plan.ensures c.slots_fit.ensures.sizes c.in_ok-memory.memory fresh c.texts.result c.error_texts.result.now c.texts.ensures c.error_texts.ensures

pub returns : goal.returns
returns c =
    let fresh = c.in_ok-memory.ensures ∙ ap₂ new_memory c.pages.ensures c.pages_max.ensures in
    memory_is c.args.linked.now c.plan-plan.result.now c.plan-plan.ensures c.slots_fit.ensures.sizes c.in_ok-memory.memory fresh c.texts.result c.error_texts.result.now c.put.new.memory c.texts.ensures c.error_texts.ensures c.put.ensures
