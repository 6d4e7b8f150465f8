use Rattle.dyl_store.proofs.Beginning.{adds_all, at_cells, on_ok}
use Rattle.dyl_store.proofs.contents.put_member_globals.Goals as goal

pub put_member_cells-requires-clause-place : goal.put_member_cells-requires-clause-place
put_member_cells-requires-clause-place c = at_cells c.args.linked.now c.args.m c.args.to.now.items c.put_bases.new.to.items c.requires.member c.requires.before c.in_ok-put_bases.ensures

pub returns : goal.returns
returns c = on_ok _ (adds_all c.args.linked.now c.args.m _ _ _ _ c.in_ok-put_bases.ensures c.in_ok-put_member_cells.ensures) c.put_own_globals.ensures
