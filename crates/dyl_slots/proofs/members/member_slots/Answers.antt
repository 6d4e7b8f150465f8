use Rattle.std.proofs.Common.{◌≡◌, ◌<◌, ℕ, ◌∙◌, None, Option, List, get_or, length, ap, nat_eq, arith}
use Rattle.std.specs.List.{position_from}
use Rattle.dyl_slots.specs.Fresh.{slot_by}
use Rattle.dyl_slots.proofs.AllMembers.{slots_exact}
use Rattle.dyl_slots.proofs.members.member_slots.Goals as goal

pub returns : goal.returns
returns c = λ L m is same.
    let s = c.args.s.now in
    let fresh = c.in_ok-fresh.fresh.items in
    let slots = c.in_ok-slots.slots in
    let many : c.len.result ≡ length s.segments.items = omega (arith, s.segments.ok.0) in
    let seen : c.deref.result.now ≡ s.segments.items = c.deref.ensures.value in
    let places : (f : ℕ) → f < length s.segments.items → get_or fresh f None ≡ position_from (nat_eq f) c.args.first s.fresh =
    λ f lt. c.in_ok-fresh.ensures.slots f (omega arith) ∙ ap (position_from (nat_eq f) c.args.first) c.items.ensures in
    let found : (f : ℕ) → f < length s.segments.items → get_or slots f None ≡ slot_by s.defined s.segments.items fresh f =
    λ f lt. c.in_ok-slots.ensures.slots f (omega (arith, ap length seen)) ∙ ap (λ ds. slot_by ds c.deref.result.now c.deref-2.result.now f) c.list.ensures
    ∙ ap (λ (xs : List (Option ℕ)). slot_by s.defined xs c.deref-2.result.now f) seen
    ∙ ap (λ (xs : List (Option ℕ)). slot_by s.defined s.segments.items xs f) c.deref-2.ensures.value in
    record {
      slots = slots_exact L m c.args.first s is same fresh slots places (c.in_ok-slots.ensures.count ∙ ap length seen) found;
      fresh = c.in_ok-copy.ensures ∙ c.items-2.ensures ∙ is.fresh;
      first = same;
    }
