use Rattle.std.proofs.Common.{◌≡◌, ◌<◌, ◌≤◌, ◌+◌, length, Option, Some, sym, ap, subst, ◌∙◌, arith}
use Rattle.spec_loading.specs.spec_binary.Options.{◌>>=◌}
use Rattle.spec_loading.specs.spec_linking.Sets.{Member}
use Rattle.dyl_link.specs.dyl_search.Gathers.{member_of}
use Rattle.dyl_link.proofs.Indices.{members_count}
use Rattle.merge_start.specs.Listed.{Fit, IsAt, IsMadeOf, spans_at, behind, phase_parts}
use Rattle.merge_start.proofs.Made.{made_is, next_at, next_made}
use Rattle.merge_start.proofs.Bounds.{AreWithin, spans_fit, next_within, fresh_few}
use Rattle.merge_start.proofs.functions.phase_functions.Goals as goal

pub elems_total-total-requires : goal.elems_total-total-requires
elems_total-total-requires c =
    let same = members_count c.args.linked.now c.members.result.now c.members.ensures in
    omega (arith, same, c.links.ensures.shape.few)

pub slots_of-slots-requires-clause-fresh : goal.slots_of-slots-requires-clause-fresh
slots_of-slots-requires-clause-fresh c =
    fresh_few c.args.linked.now c.loop-m.m _ c.module.ensures.formed (ap (λ (o : Option Member). o >>= λ x. Some x.wasm) c.member.ensures)

pub member_parts-requires-clause-fit : goal.member_parts-requires-clause-fit
member_parts-requires-clause-fit c =
    let x = member_of c.member.result.now in
    let few : c.loop-m.m ≤ 256 = omega (arith, c.loop-m-test.true, c.member_count-m-end.ensures.few) in
    let spans : c.spans_at-spans.result ≡ spans_at c.loop-m.at x.wasm = c.spans_at-spans.ensures ∙ ap (spans_at c.loop-m.at) c.module.ensures.same in
    subst Fit (sym spans) (spans_fit c.loop-m.m c.loop-m.at c.loop-m.invariant.within x.wasm c.module.ensures.formed few)

pub behind-at-requires : goal.behind-at-requires
behind-at-requires c =
    let x = member_of c.member.result.now in
    let few : c.loop-m.m ≤ 256 = omega (arith, c.loop-m-test.true, c.member_count-m-end.ensures.few) in
    let spans : c.spans_at-spans.result ≡ spans_at c.loop-m.at x.wasm = c.spans_at-spans.ensures ∙ ap (spans_at c.loop-m.at) c.module.ensures.same in
    subst Fit (sym spans) (spans_fit c.loop-m.m c.loop-m.at c.loop-m.invariant.within x.wasm c.module.ensures.formed few)

pub loop-m-preserved : goal.loop-m-preserved
loop-m-preserved c =
    let L = c.args.linked.now in
    let m = c.loop-m.m in
    let x = member_of c.member.result.now in
    let spans : c.spans_at-spans.result ≡ spans_at c.loop-m.at x.wasm = c.spans_at-spans.ensures ∙ ap (spans_at c.loop-m.at) c.module.ensures.same in
    let lt : m < length L.set.members = omega (arith, c.loop-m-test.true, c.member_count-m-end.ensures.count) in
    record {
      made = λ N s listed.
          let four = made_is L c.args.n.now N s listed m lt x.wasm (ap (λ (o : Option Member). o >>= λ y. Some y.wasm) c.member.ensures)
          c.loop-m.at c.loop-m.invariant.at c.slots_of-slots.result c.elems_total-total.result c.members.result.now c.members.ensures
          c.elems_total-total.ensures.told c.slots_of-slots.ensures.segment c.slots_of-slots.ensures.first c.slots_of-slots.ensures.count
          c.in_ok-four.four.items
          (subst (λ at. IsMadeOf L c.args.n.now m at c.slots_of-slots.result c.in_ok-four.four.items) spans c.in_ok-four.ensures) in
          next_made L m x c.member.ensures (phase_parts L N s) c.loop-m.parts.items c.in_ok-four.four.items c.append.new.self.items _
          (c.loop-m.invariant.made N s listed) four c.in_ok-append.ensures.items;
      at = subst (IsAt L (m + 1)) (sym (c.behind-at.ensures ∙ ap behind spans)) (next_at L m x c.member.ensures c.loop-m.at c.loop-m.invariant.at);
      within = subst (AreWithin (m + 1)) (sym (c.behind-at.ensures ∙ ap behind spans)) (next_within m c.loop-m.at c.loop-m.invariant.within x.wasm c.module.ensures.formed);
    }
