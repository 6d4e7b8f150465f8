use Rattle.std.proofs.Common.{arith, ◌≡◌, ◌<◌, length, get_or}
use Rattle.std.proofs.lemmas.Grind.{common_steps}
use Rattle.wasm_check.proofs.Heights.{have_more}
use Rattle.wasm_check.proofs.bodies.bodies_typed.Goals as goal

pub loop-n-preserved : goal.loop-n-preserved
loop-n-preserved c =
    let inside : c.loop-n.n < length c.args.m.now.codes = grind arith in
    let is : c.index-codes-n.result ≡ get_or c.args.m.now.codes c.loop-n.n c.index-codes-n.result = cc in
    record {
      left = grind (arith, common_steps);
      heights = have_more c.args.m.now c.loop-n.heights.items c.put_height.new.heights.items c.in_ok-height.height c.loop-n.n
          c.index-codes-n.result inside is c.in_ok-height.ensures.height c.in_ok-put_height.ensures c.loop-n.invariant.heights;
    }
