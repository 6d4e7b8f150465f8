use Rattle.std.proofs.Common.{◌∙◌, sym}
use Rattle.host_table.proofs.Entries.{on_ok}
use Rattle.dyl_imports.proofs.EachOnce.{kept_host, new_host}
use Rattle.dyl_imports.proofs.hosts.Hosts.add.Goals as goal

pub returns-in-Some-clause-exact : goal.returns-in-Some-clause-exact
returns-in-Some-clause-exact c = kept_host c.args.self.now (record { module_name = c.args.from.now; name = c.args.name.now; ty = c.args.ty.now }) _ (sym c.find.ensures ∙ c.in-Some.is)

pub returns-in-None-clause-exact : goal.returns-in-None-clause-exact
returns-in-None-clause-exact c =
    on_ok c.push.result
    (λ added. added ∙ new_host c.args.self.now (record { module_name = c.args.from.now; name = c.args.name.now; ty = c.args.ty.now }) (sym c.find.ensures ∙ c.in-None.is))
    c.push.ensures
