use Rattle.merge_dl.specs.Listed.{starts_in, finders_in}
use Rattle.merge_dl.proofs.Making.{open_made}
use Rattle.merge_dl.proofs.dlopen.open_call_code.Goals as goal

pub returns : goal.returns
returns c =
    open_made c.args.linked.now (starts_in c.args.n.now) (finders_in c.args.n.now) _ _ _ c.in_ok-code.ensures c.in_ok-search.ensures c.in_ok-append.ensures.items
