use Rattle.std.proofs.Common.{◌∙◌, ap, sym, unwrap_or}
use Rattle.spec_runtime.specs.Names.{empty_module, host_module}
use Rattle.host_table.proofs.Entries.{lookup_by_text}
use Rattle.host_table.proofs.names.HostNames.module.Goals as goal

pub returns : goal.returns
returns c = ap (λ r. unwrap_or r empty_module) (c.get.ensures.value ∙ sym (lookup_by_text c.args.from.now c.self.inside.modules.entries)) ∙ ap (λ n. host_module n c.args.from.now) c.self.view_is
