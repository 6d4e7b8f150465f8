use Rattle.std.proofs.Common.{◌≡◌, ◌∙◌, ◌<◌, ◌+◌, ◌∷◌, [], length, get_or, map, arith, ap, length-append}
use Rattle.std.specs.List.{list_any}
use Rattle.spec_loading.specs.spec_linking.Definitions.{is_weak_note}
use Rattle.dyl_section.specs.Recorded.{import_note}
use Rattle.dyl_imports.proofs.Steps.{weak_step}
use Rattle.dyl_imports.proofs.weak.weak_of.Goals as goal

pub loop-member-preserved : goal.loop-member-preserved
loop-member-preserved c =
    let members = c.args.members.now in
    let i = c.loop-member.member-index in
    let less : i < length members = omega arith in
    let at : c.member-item.result ≡ get_or members i c.member-item.result = cc in
    record {
      count = ap length c.in_ok-push.ensures.items ∙ length-append c.loop-member.weak.items (c.in_ok-names.names ∷ []) ∙ ap (λ n. n + 1) c.loop-member.invariant.count;
      so_far = weak_step members c.loop-member.weak.items c.push.new.self.items i c.member-item.result c.in_ok-names.names less at c.loop-member.invariant.count c.loop-member.invariant.so_far
          (λ name. c.in_ok-names.ensures name ∙ ap (λ ns. list_any (is_weak_note name) (map import_note ns)) c.items.ensures) c.in_ok-push.ensures.items;
    }
