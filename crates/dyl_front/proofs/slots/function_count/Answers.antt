use Rattle.std.proofs.Common.{◌∙◌}
use Rattle.dyl_front.proofs.MemberFunctions.{count_is}
use Rattle.dyl_front.proofs.slots.function_count.Goals as goal

pub returns : goal.returns
returns c =
    c.listed_count.ensures
    ∙ count_is c.args.linked.now c.links.ensures.shape c.links.ensures.links c.functions_are_there.ensures c.functions.result.now c.functions.ensures c.args.m
