use Rattle.std.proofs.Common.{◌∙◌}
use Rattle.merge_start.proofs.passive.passive_parts.Goals as goal

pub returns-clause-renumbered : goal.returns-clause-renumbered
returns-clause-renumbered c = λ N named. record {
  elems = c.of.ensures ∙ c.in_ok-elems.ensures.renumbered N named;
  datas = c.of-2.ensures ∙ c.in_ok-datas.ensures;
}
