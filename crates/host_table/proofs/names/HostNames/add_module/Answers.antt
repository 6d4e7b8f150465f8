use Rattle.std.proofs.Common.{rules, ◌≡◌, string_bytes}
use Rattle.std.specs.String.{string_eq}
use Rattle.spec_runtime.specs.Names.{HostModule}
use Rattle.host_table.specs.Names.{TypesHaveIntegers}
use Rattle.host_table.proofs.Entries.{module_added, All-inserted}
use Rattle.host_table.proofs.names.HostNames.add_module.Goals as goal

pub returns-clause-ok : goal.returns-clause-ok
returns-clause-ok c change changed =
    let named : string_bytes c.in_ok-key.key ≡ c.args.from.now = search rules in
    module_added change c.args.from.now c.self.inside.modules.entries c.insert.new.self.entries c.in_ok-key.key c.args.names c.args.self.now c.self.view_is c.in_ok-insert.ensures.entries named c.requires.new changed

pub invariant_of-self-2 : goal.invariant_of-self-2
invariant_of-self-2 c =
    rw c.in_ok-insert.ensures.entries
    (All-inserted (λ (m : HostModule). TypesHaveIntegers m.functions) string_eq c.self.inside.modules.entries c.in_ok-key.key c.args.names c.self.invariant c.integers.ensures)
