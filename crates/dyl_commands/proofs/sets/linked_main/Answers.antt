use Rattle.host_calls.specs.Embedders.{names_of}
use Rattle.spec_loading.specs.spec_linking.Sets.{default_options}
use Rattle.dyl_link.specs.Sets as links
use Rattle.dyl_commands.proofs.Several.{unlinked}
use Rattle.dyl_commands.proofs.sets.linked_main.Goals as goal

pub returns-in-Err : goal.returns-in-Err
returns-in-Err g c = unlinked (names_of c.args.host.now) (default_options c.args.main.now) (links.options_of c.args.o.now) (g.F.Files.seen c.args.files.now)
