use Rattle.std.proofs.Common.{◌≡◌, ℕ, ◌++◌, List, OnOk, length, ap, ◌∙◌, subst}
use Rattle.spec_linking.specs.Plans.{Plan}
use Rattle.spec_linking.specs.Slots.{linked_plan, table_entries}
use Rattle.dyl_front.specs.Summary.{sizes_lines}
use Rattle.dyl_front.proofs.reports.put_sizes.Goals as goal

pub returns : goal.returns
returns c =
    let L = c.args.linked.now in
    let entries = c.table_entries-entries.result in
    let most = c.table_max-most.result in
    let same =
    ap (λ (n : ℕ). sizes_lines n c.plan.result.now.pages c.plan.result.now.pages_max entries most) c.member_count.ensures.count
    ∙ ap (λ (plan : Plan). sizes_lines (length L.set.members) plan.pages plan.pages_max entries most) c.plan.ensures
    ∙ ap (λ (n : ℕ). sizes_lines (length L.set.members) (linked_plan L).pages (linked_plan L).pages_max n most) c.table_entries-entries.ensures
    ∙ ap (sizes_lines (length L.set.members) (linked_plan L).pages (linked_plan L).pages_max (table_entries L)) c.table_max-most.ensures in
    subst (λ (lines : List ℕ). OnOk c.put_sizes_lines.result (c.put_sizes_lines.new.to.items ≡ c.args.to.now.items ++ lines)) same c.put_sizes_lines.ensures
