use Rattle.std.proofs.Common.{[], ◌∷◌, ◌++◌, ap₂, ◌∙◌}
use Rattle.merge_find.specs.Decisions.{strings}
use Rattle.merge_find.specs.Building.{names_of}
use Rattle.merge_dl.specs.Listed.{starts_in}
use Rattle.merge_dl.proofs.Making.{named_next}
use Rattle.merge_dl.proofs.dlopen.named_members.Goals as goal

pub loop-m-preserved : goal.loop-m-preserved
loop-m-preserved c =
    let L = c.args.linked.now in
    record {
      names = named_next L (starts_in c.args.n.now) L.set.members c.loop-m.m _ c.member-member.ensures _ _ _
          (c.in_ok-put_named.ensures.names
          ∙ ap₂ (λ name code. names_of c.loop-m.names.items ++ strings ((name, code) ∷ [])) (c.as_bytes.ensures.value ∙ c.as_str.ensures) c.in_ok-code.ensures)
          c.loop-m.invariant.names;
      texts = c.in_ok-put_named.ensures.texts;
    }
