use Rattle.std.proofs.Common.{sym, subst}
use Rattle.merge_start.specs.Listed.{AreFew}
use Rattle.merge_start.proofs.Linked.{closure_few}
use Rattle.merge_dl.proofs.dlsym.handle_code.Goals as goal

pub tries_then-requires-clause-few : goal.tries_then-requires-clause-few
tries_then-requires-clause-few c = subst AreFew (sym c.closure.ensures) (closure_few c.args.linked.now c.links.ensures.shape c.args.m c.requires.member)
