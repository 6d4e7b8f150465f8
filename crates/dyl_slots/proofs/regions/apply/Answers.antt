use Rattle.std.proofs.Common.{◌≡◌, ◌∙◌, ◌+◌, ◌<◌, ap, arith, length}
use Rattle.std.proofs.lemmas.Grind.{common_steps}
use Rattle.dyl_slots.specs.Regions.{applied_first}
use Rattle.dyl_slots.proofs.Applied.{one_more, all_of_one}
use Rattle.dyl_slots.proofs.regions.apply.Goals as goal

pub loop-n-preserved : goal.loop-n-preserved
loop-n-preserved c = λ table is k inside.
    let before : k < length c.loop-n.region = omega arith in
    let old = c.loop-n.invariant table is k before in
    let one = c.put.ensures k before in
    let more = one_more table (c.args.at, c.args.items.now) c.loop-n.n (c.args.base + k) in
    let from : c.from.result ≡ c.args.at = grind (arith, common_steps) in
    one ∙ rw (from, old) more

pub returns : goal.returns
returns c = λ table is k inside.
    let all : c.loop-n.n ≡ length c.args.items.now = omega arith in
    c.loop-n.invariant table is k inside ∙ ap (λ n. applied_first n table (c.args.at, c.args.items.now) (c.args.base + k)) all ∙ all_of_one table (c.args.at, c.args.items.now) (c.args.base + k)
