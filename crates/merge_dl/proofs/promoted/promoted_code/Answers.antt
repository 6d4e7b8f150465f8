use Rattle.merge_dl.specs.Listed.{starts_in, finders_in}
use Rattle.merge_dl.proofs.Making.{promoted_made}
use Rattle.merge_dl.proofs.promoted.promoted_code.Goals as goal

pub returns : goal.returns
returns c =
    promoted_made c.args.linked.now (starts_in c.args.n.now) (finders_in c.args.n.now) _ _ c.startup.ensures c.member_count-count.ensures.count
    c.number.ensures c.in_ok-code.ensures.items c.in_ok-put_prefers.ensures c.in_ok-preferred.ensures c.in_ok-append.ensures.items
