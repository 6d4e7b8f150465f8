use Rattle.std.proofs.Common.{IsTrue, subst}
use Rattle.spec_runtime.specs.Names.{HostModule, has_integers}
use Rattle.host_table.specs.Names.{TypesHaveIntegers}
use Rattle.host_table.proofs.Entries.{All-by_text}
use Rattle.host_table.proofs.module.ModuleNames.integers.Goals as goal

pub returns : goal.returns
returns c = subst (λ (m : HostModule). TypesHaveIntegers m.functions) c.self.view_is (All-by_text (λ t. IsTrue (has_integers t)) c.self.inside.functions.entries c.self.invariant)
