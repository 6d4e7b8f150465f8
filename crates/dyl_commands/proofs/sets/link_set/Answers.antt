use Rattle.dyl_link.specs.dyl_search.Gathers.{set_of}
use Rattle.dyl_link.specs.Sets as links
use Rattle.host_calls.specs.Embedders.{names_of}
use Rattle.dyl_commands.proofs.Linking.{links_to, links_not}
use Rattle.dyl_commands.proofs.sets.link_set.Goals as goal

pub returns-in-Ok-link : goal.returns-in-Ok-link
returns-in-Ok-link g c =
    links_to (links.options_of c.args.o.now) (set_of c.args.set) c.in-Ok.names (names_of c.args.host.now) c.in-Ok-link.linked c.in-Ok.ensures.names c.in-Ok-link.ensures.linked c.in-Ok-link.ensures.links

pub returns : goal.returns
returns g c =
    rw c.unlinked.ensures (links_not (links.options_of c.args.o.now) (set_of c.args.set) c.in-Ok.names (names_of c.args.host.now) c.in-Err.refused.fault c.in-Ok.ensures.names c.in-Err.ensures.first)
