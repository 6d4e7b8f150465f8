use Rattle.std.proofs.Common.{◌≡◌, ℕ, ◌+◌, ◌∙◌, length, nat_eq, sym, ap, ap₂, subst, arith}
use Rattle.std.specs.List.{position_from}
use Rattle.wasm_form.specs.declared.runtime.LoaderCall.{LoaderCall}
use Rattle.spec_loading.specs.spec_linking.Slots.{same_call}
use Rattle.dyl_slots.specs.Fresh.{slot_at}
use Rattle.dyl_slots.specs.Found.{loader_slot_in}
use Rattle.dyl_slots.specs.Given.{IsSegmentedOf, AllAt, fresh_sum}
use Rattle.dyl_slots.proofs.AllTables.{slots_are}
use Rattle.dyl_slots.proofs.given.slots_of_wanted.Goals as goal

pub returns-clause-exact : goal.returns-clause-exact
returns-clause-exact c = λ L same is.
    let w = c.args.wanted.now in
    let end = c.args.table_end in
    let segmented : c.deref.result.now ≡ w.members.items = c.deref.ensures.value in
    let calls : c.deref-3.result.now ≡ w.outside.calls.items = c.deref-3.ensures.value in
    let sum : c.fresh_total.result ≡ fresh_sum w.members.items = c.fresh_total.ensures.value ∙ ap fresh_sum c.deref-2.ensures.value in
    let many : c.len.result ≡ length w.outside.calls.items = omega (arith, w.outside.calls.ok.0) in
    let room = c.requires.room in
    let all = c.in_ok-members.ensures.exact L (subst (AllAt (IsSegmentedOf L)) (sym segmented) is.members) same in
    let count : length c.in_ok-members.members.items ≡ length w.members.items = c.in_ok-members.ensures.count ∙ ap length segmented in
    let loaders : (call : LoaderCall) → loader_slot_in c.loader_slots-loader.result call ≡ position_from (same_call call) (end + fresh_sum w.members.items) w.outside.calls.items =
    λ call. c.loader_slots-loader.ensures call ∙ ap₂ (position_from (same_call call)) (omega arith) calls in
    let hosts : (n : ℕ) → slot_at c.in_ok-hosts.hosts.items n ≡ position_from (nat_eq n) ((end + fresh_sum w.members.items) + length w.outside.calls.items) w.outside.hosts =
    λ n. c.in_ok-hosts.ensures n ∙ ap₂ (position_from (nat_eq n)) (omega arith) c.list.ensures in
    let slots = slots_are L w c.in_ok-members.members.items c.in_ok-hosts.hosts.items c.loader_slots-loader.result end is same count all loaders hosts in
    record { count = count ∙ is.count; members = all; slots = slots }
