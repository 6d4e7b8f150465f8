use Rattle.std.proofs.Common.{List, ap, ◌∙◌}
use Rattle.spec_loading.specs.wasm_form.declared.types.Limits.{Limits}
use Rattle.snap_module.specs.Held.{held_memories}
use Rattle.snap_parts.proofs.whole.put_memory.Goals as goal

pub returns : goal.returns
returns c = record {
  is = ap (λ (x : List Limits). record c.args.to.now { memories = x })
      (c.in_ok-memories.ensures ∙ ap (λ (l : List Limits). held_memories l c.args.memory.now) c.items.ensures);
}
