use Rattle.dyl_store.proofs.Opened.{open_tasks, open_members}
use Rattle.dyl_store.proofs.tasks.member_tasks.Goals as goal

pub returns-clause-tasks : goal.returns-clause-tasks
returns-clause-tasks c =
    open_tasks c.args.linked.now c.links.ensures.shape c.args.m c.requires c.in_ok-tasks.tasks.items c.closure.result.now c.construct_order.result.now c.in_ok-tasks.ensures c.closure.ensures c.construct_order.ensures

pub returns-clause-members : goal.returns-clause-members
returns-clause-members c =
    open_members c.args.linked.now c.links.ensures.shape c.args.m c.requires c.in_ok-tasks.tasks.items c.closure.result.now c.construct_order.result.now c.in_ok-tasks.ensures c.closure.ensures c.construct_order.ensures
