use Rattle.std.proofs.Common.{◌≡◌, ◌∷◌, [], ◌++◌, Ok, Err, arith}
use Rattle.std.proofs.lemmas.Grind.{common_steps}
use Rattle.host_wasi.proofs.Drawing.{leads_on, some_here, ends_here}
use Rattle.host_wasi.proofs.fulfil.draw_words.Goals as goal

pub returns-in-Err-clause-drawn : goal.returns-in-Err-clause-drawn
returns-in-Err-clause-drawn g c = ends_here _ _ _ c.args.count c.loop.counter c.loop.words.items c.loop-test.true c.in-Err.fault c.in-Err.ensures c.loop.invariant

pub returns-in-Err-clause-begun : goal.returns-in-Err-clause-begun
returns-in-Err-clause-begun g c = some_here _ _ _ c.args.count c.loop.counter c.loop.words.items c.loop-test.true (Err c.in-Err.fault) c.in-Err.ensures c.loop.invariant

pub returns-then-is_err-clause-begun : goal.returns-then-is_err-clause-begun
returns-then-is_err-clause-begun g c = some_here _ _ _ c.args.count c.loop.counter c.loop.words.items c.loop-test.true (Ok c.in-Ok.word) c.in-Ok.ensures c.loop.invariant

pub loop-preserved : goal.loop-preserved
loop-preserved g c =
    let more : c.push.new.self.items ≡ c.loop.words.items ++ c.in-Ok.word ∷ [] = grind (arith, common_steps) in
    rw more (leads_on _ _ _ c.args.count c.loop.counter c.loop.words.items c.loop-test.true c.in-Ok.word c.in-Ok.ensures c.loop.invariant)
