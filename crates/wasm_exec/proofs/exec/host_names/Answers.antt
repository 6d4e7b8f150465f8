use Rattle.std.proofs.Common.{◌≡◌, ◌∙◌, ap, subst}
use Rattle.spec_hosts.specs.spec_runtime.Names.{with_names}
use Rattle.spec_hosts.specs.Calls.{with_wasi}
use Rattle.dyl_link.specs.host_table.Names.{HaveIntegers}
use Rattle.dyl_link.specs.host_table.Table.{functions_of}
use Rattle.wasm_exec.proofs.exec.host_names.Goals as goal

pub returns-clause-integers : goal.returns-clause-integers
returns-clause-integers g c =
    subst HaveIntegers
    (c.in_ok-names.ensures.declared ∙ ap (λ first. with_names first (functions_of c.args.table.now)) (c.in_ok-first.ensures ∙ ap with_wasi c.new.ensures))
    c.integers.ensures
