use Rattle.std.proofs.Common.{List, ap, ◌∙◌}
use Rattle.spec_traces.specs.spec_hosts.spec_runtime.Names.{HostName}
use Rattle.dyl_front.specs.Listing.{host_name}
use Rattle.dyl_front.proofs.slots.host_name.Goals as goal

pub returns : goal.returns
returns c = c.host_among.ensures ∙ ap (λ (hs : List HostName). host_name hs c.args.n) c.hosts.ensures
