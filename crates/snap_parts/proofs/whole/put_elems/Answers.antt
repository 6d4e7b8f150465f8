use Rattle.std.proofs.Common.{List, map, refl, subst, ◌∙◌}
use Rattle.std.specs.Prelude.{Bool}
use Rattle.merge_match.specs.Renumbering.{table_instance}
use Rattle.merge_index.specs.Kept.{numbers_in}
use Rattle.snap_parts.specs.Sections.{ElemsHeld}
use Rattle.snap_parts.proofs.whole.put_elems.Goals as goal

pub returns : goal.returns
returns c = record {
  is = refl;
  elems = subst (λ (l : List Bool). ElemsHeld c.args.to.now l (map (table_instance (numbers_in c.args.numbers.now)) c.args.flat.tables.now) c.in_ok-elems.elems)
      (c.deref.ensures.value ∙ c.in_ok-left.ensures) c.in_ok-elems.ensures;
}
