use Rattle.std.proofs.Common.{List, slice_get, ap, ◌∙◌}
use Rattle.spec_linking.specs.Sets.{Member}
use Rattle.dyl_front.specs.Listing.{function_name}
use Rattle.dyl_front.proofs.slots.function_name.Goals as goal

pub returns : goal.returns
returns c = c.function_among.ensures ∙ ap (λ (ms : List Member). function_name (slice_get ms c.args.m) c.args.f) c.members.ensures
