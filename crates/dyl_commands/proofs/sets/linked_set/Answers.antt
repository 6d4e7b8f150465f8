use Rattle.std.proofs.Common.{Err, ap}
use Rattle.dyl_link.specs.dyl_search.Gathers.{options_of, set_of}
use Rattle.dyl_link.specs.Sets as links
use Rattle.host_calls.specs.Embedders.{names_of}
use Rattle.dyl_commands.proofs.Linking.{got, not_got}
use Rattle.dyl_commands.proofs.sets.linked_set.Goals as goal

pub returns-in-Ok : goal.returns-in-Ok
returns-in-Ok g c =
    got (names_of c.args.host.now) (options_of c.args.set.now) (links.options_of c.args.o.now) _ _ c.in-Ok.ensures.outside.files c.in-Ok.ensures.outside.writes c.in-Ok.ensures.outside.absents (set_of c.in-Ok.gathered) c.link_set.result
    c.in-Ok.ensures.answer c.in-Ok.ensures.set c.in-Ok.ensures.outside.reads c.in-Ok.ensures.tried c.link_set.ensures

pub returns-in-Err : goal.returns-in-Err
returns-in-Err g c =
    rw c.refused.ensures
    (not_got (names_of c.args.host.now) (options_of c.args.set.now) (links.options_of c.args.o.now) _ _ c.in-Err.ensures.outside.files c.in-Err.ensures.outside.writes c.in-Err.ensures.outside.absents c.in-Err.fault c.in-Err.ensures.answer c.in-Err.ensures.whole
    c.in-Err.ensures.outside.reads (λ name is. c.in-Err.ensures.absent name (ap Err is)) c.in-Err.ensures.broken)
