use Rattle.std.proofs.Common.{◌<◌, [], ◌∷◌, length, ap, arith}
use Rattle.spec_loading.proofs.of_spec_binary.Lists.{got}
use Rattle.wasm_form.specs.declared.module.Part.{Part}
use Rattle.merge_start.specs.Listed.{open_parts}
use Rattle.merge_start.proofs.Made.{next_made}
use Rattle.merge_start.proofs.openings.open_functions.Goals as goal

pub loop-m-preserved : goal.loop-m-preserved
loop-m-preserved c = λ N x listed.
    let L = c.args.linked.now in
    let m = c.loop-m.m in
    let inside : m < length L.set.members = omega (arith, c.loop-m-test.true, c.member_count-m-end.ensures.count) in
    let here = got L.set.members m inside in
    next_made L m here.0 here.1 (open_parts L N x) c.loop-m.parts.items (c.in_ok-part.part ∷ []) c.push.new.self.items _
    (c.loop-m.invariant N x listed) (ap (λ (p : Part). p ∷ []) (c.in_ok-part.ensures N x listed)) c.in_ok-push.ensures.items
