use Rattle.dyl_front.proofs.Listings.{summary_is}
use Rattle.dyl_front.proofs.reports.summary.Goals as goal

pub returns : goal.returns
returns c =
    summary_is c.args.linked.now c.args.loaded.now c.args.merged.now c.new-bytes.result.items c.put_sizes.new.to.items c.put_run.new.to.items c.put_run-2.new.to.items c.new-bytes.ensures.items c.in_ok-put_sizes.ensures
    c.in_ok-put_run.ensures c.in_ok-put_run-2.ensures
