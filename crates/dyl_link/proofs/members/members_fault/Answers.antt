use Rattle.std.proofs.Common.{rules, ◌≡◌, ◌∙◌, ◌<◌, ◌+◌, None, length, get_or, drop, ap, sym, subst, arith}
use Rattle.spec_loading.specs.spec_linking.Links.{◌or_else◌, member_fault, members_fault}
use Rattle.dyl_slots.specs.dyl_search.Gathers.{member_of}
use Rattle.dyl_link.specs.Answers.{Tells}
use Rattle.dyl_link.proofs.OneMore.{members_step}
use Rattle.dyl_link.proofs.members.members_fault.Goals as goal

pub returns-in_err-member_fault : goal.returns-in_err-member_fault
returns-in_err-member_fault c = λ L h.
    let members = c.args.imports.now.known.members.now in
    let m = c.loop-m.m in
    let x = c.index-members-m.result in
    let same : length c.members-members.result.now ≡ length members = ap (λ ms. length ms) c.members-members.ensures in
    let less : m < length members = omega arith in
    let at : x ≡ get_or members m x = cc in
    let step : members_fault L 0 L.set.members ≡ (member_fault L m (member_of x) or_else members_fault L (m + 1) (drop (m + 1) L.set.members)) =
    sym (c.loop-m.invariant L h) ∙ members_step L members m x h.known.over.members less at in
    let first = c.in_err-member_fault.ensures L h in
    subst (Tells c.from_residual.result) (sym step) (search (rules, first))

pub loop-m-preserved : goal.loop-m-preserved
loop-m-preserved c = λ L h.
    let members = c.args.imports.now.known.members.now in
    let m = c.loop-m.m in
    let x = c.index-members-m.result in
    let same : length c.members-members.result.now ≡ length members = ap (λ ms. length ms) c.members-members.ensures in
    let less : m < length members = omega arith in
    let at : x ≡ get_or members m x = cc in
    let none : member_fault L m (member_of x) ≡ None = c.in_ok-member_fault.ensures L h in
    sym (members_step L members m x h.known.over.members less at ∙ ap (λ f. f or_else members_fault L (m + 1) (drop (m + 1) L.set.members)) none) ∙ c.loop-m.invariant L h
