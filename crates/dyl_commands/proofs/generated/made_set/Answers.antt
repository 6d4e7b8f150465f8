use Rattle.std.proofs.Common.{refl}
use Rattle.host_calls.specs.Embedders.{names_of}
use Rattle.dyl_link.specs.host_table.Table.{functions_of}
use Rattle.dyl_commands.proofs.Generating.{made_from}
use Rattle.dyl_commands.proofs.Writing.{can_write}
use Rattle.dyl_commands.proofs.generated.made_set.Goals as goal

pub returns-in-Ok-made_files : goal.returns-in-Ok-made_files
returns-in-Ok-made_files g c =
    made_from (names_of c.args.host.now) (can_write (functions_of c.args.host.now)) c.args.n c.args.pages c.in-Ok-made_files.files.files c.in-Ok-made_files.ensures c.generated_set_links.ensures.gathered
    c.generated_set_links.ensures.three _ _ refl refl refl c.linked_set-linked.result (rw (c.in-Ok.ensures, c.with_pages.ensures) at c.linked_set-linked.ensures)
