use Rattle.std.proofs.Common.{◌<◌, ◌≤◌, List, [], ◌∷◌, ◌++◌, Bool, false, length, ap, ◌∙◌, arith, append_assoc}
use Rattle.snap_merge.specs.Added.{left_by}
use Rattle.snap_merge.proofs.AddedLists.{left_next, left_last}
use Rattle.snap_merge.proofs.added.segments_left.Goals as goal

pub loop-m-preserved : goal.loop-m-preserved
loop-m-preserved c =
    let L = c.args.linked.now in
    let inside : c.loop-m.m < length L.set.members = omega (arith, c.loop-m-test.true, c.member_count-m-end.ensures.count) in
    left_next (λ m. left_by c.args.stages.now L m ∷ []) L.set.members c.loop-m.m inside c.loop-m.all.items _ _
    (c.in_ok-push.ensures.items ∙ ap (λ (b : Bool). c.loop-m.all.items ++ b ∷ []) c.is_left.ensures) c.loop-m.invariant

pub returns : goal.returns
returns c =
    let L = c.args.linked.now in
    let all : length L.set.members ≤ c.loop-m.m = omega (arith, c.loop-m-test.false, c.member_count-m-end.ensures.count) in
    let put = left_last (λ m. left_by c.args.stages.now L m ∷ []) c.loop-m.m L.set.members all c.loop-m.all.items _ c.loop-m.invariant in
    c.in_ok-push-3.ensures.items
    ∙ ap (λ (l : List Bool). l ++ false ∷ []) c.in_ok-push-2.ensures.items
    ∙ append_assoc c.loop-m.all.items (false ∷ []) (false ∷ [])
    ∙ ap (λ (l : List Bool). l ++ false ∷ false ∷ []) put
