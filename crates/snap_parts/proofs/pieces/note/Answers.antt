use Rattle.std.proofs.Common.{Some, ap, sym, ◌∙◌}
use Rattle.std.proofs.lemmas.List.Elements.{All-pop}
use Rattle.snap_parts.specs.Found.{EndsBy, noted}
use Rattle.snap_parts.proofs.Order.{noted_last}
use Rattle.snap_parts.proofs.pieces.note.Goals as goal

pub put_after-requires-clause-last : goal.put_after-requires-clause-last
put_after-requires-clause-last c = (All-pop (EndsBy c.args.i) _ _ (Some c.in-Some.last) c.in-Some.ensures.items c.requires.before).1

pub returns-in_ok-put_after-in-Some : goal.returns-in_ok-put_after-in-Some
returns-in_ok-put_after-in-Some c =
    c.in_ok-put_after-in-Some.ensures ∙ sym (ap (noted c.args.gap c.args.i) c.in-Some.ensures.items ∙ noted_last c.args.gap c.args.i _ c.in-Some.last)
