use Rattle.std.proofs.Common.{subst}
use Rattle.spec_runtime.specs.Names.{HostModule}
use Rattle.host_table.specs.Names.{by_text, TypesHaveIntegers, HaveIntegers}
use Rattle.host_table.proofs.Entries.{All-by_text}
use Rattle.host_table.proofs.DeclaredTypes.{have_integers}
use Rattle.host_table.proofs.names.HostNames.integers.Goals as goal

pub returns : goal.returns
returns c =
    subst HaveIntegers c.self.view_is
    (have_integers (record { modules = by_text c.self.inside.modules.entries }) (All-by_text (λ (m : HostModule). TypesHaveIntegers m.functions) c.self.inside.modules.entries c.self.invariant))
