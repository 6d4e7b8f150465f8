use Rattle.std.proofs.Common.{◌≡◌, ℕ, ◌*◌, ◌++◌, List, OnOk, ap, ◌∙◌, subst}
use Rattle.spec_traces.specs.spec_hosts.spec_runtime.Memories.{page_size}
use Rattle.spec_linking.specs.Plans.{Plan}
use Rattle.spec_linking.specs.Slots.{linked_plan, table_entries}
use Rattle.dyl_front.specs.Listing.{plan_lines}
use Rattle.dyl_front.proofs.list.put_plan.Goals as goal

pub returns : goal.returns
returns c =
    let L = c.args.linked.now in
    let same =
    ap (λ (plan : Plan). plan_lines plan (plan.pages * page_size) c.table_entries-entries.result c.table_max-most.result) c.plan.ensures
    ∙ ap (λ (n : ℕ). plan_lines (linked_plan L) ((linked_plan L).pages * page_size) n c.table_max-most.result) c.table_entries-entries.ensures
    ∙ ap (plan_lines (linked_plan L) ((linked_plan L).pages * page_size) (table_entries L)) c.table_max-most.ensures in
    subst (λ (lines : List ℕ). OnOk c.put_plan_lines.result (c.put_plan_lines.new.to.items ≡ c.args.to.now.items ++ lines)) same c.put_plan_lines.ensures
