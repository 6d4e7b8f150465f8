use Rattle.std.proofs.Common.{List, slice_get, ap, ◌∙◌}
use Rattle.spec_linking.specs.Sets.{Member}
use Rattle.dyl_front.specs.Named.{exports_in}
use Rattle.dyl_front.proofs.slots.exports_of.Goals as goal

pub returns : goal.returns
returns c = c.exports_among.ensures ∙ ap (λ (ms : List Member). exports_in (slice_get ms c.args.m)) c.members.ensures
