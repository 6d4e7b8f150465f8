use Rattle.std.proofs.Common.{take}
use Rattle.std.proofs.lemmas.List.Elements.{All-take}
use Rattle.spec_runtime.specs.Names.{HostModule}
use Rattle.host_table.specs.Names.{TypesHaveIntegers}
use Rattle.host_table.proofs.Entries.{All-by_text, All-from_text}
use Rattle.host_table.proofs.names.HostNames.copied.Goals as goal

pub invariant_of-result : goal.invariant_of-result
invariant_of-result c =
    let es = c.self.inside.modules.entries in
    All-from_text (λ (m : HostModule). TypesHaveIntegers m.functions) c.loop-n.modules.entries
    (rw c.loop-n.invariant (All-by_text (λ (m : HostModule). TypesHaveIntegers m.functions) (take c.loop-n.n es) (All-take (λ e. TypesHaveIntegers e.1.functions) c.loop-n.n es c.self.invariant)))
