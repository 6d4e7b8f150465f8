use Rattle.std.proofs.Common.{◌≡◌, ◌*◌, ◌<◌, ◌≤◌, length, arith}
use Rattle.std.proofs.lemmas.Grind.{common_steps}
use Rattle.dyl_outside.proofs.KnownBytes.{word_here, word_next, written_over}
use Rattle.dyl_outside.proofs.random_file.RandomFile.word.Goals as goal

pub returns-then-self-lt-WORDS : goal.returns-then-self-lt-WORDS
returns-then-self-lt-WORDS g c = λ left told.
    let r = c.args.self.now in
    let few : r.given < 512 = grind (arith, common_steps) in
    word_here r.block.items left (8 * r.given) c.give.result (omega (arith, r.size, few)) c.give.ensures

pub returns : goal.returns
returns g c = λ left told.
    let r = c.args.self.now in
    let all : 512 ≤ r.given = grind (arith, common_steps) in
    let long : length c.fill.new.block ≡ 4096 = grind (arith, common_steps, r.size) in
    let is = rw (written_over r.block.items c.fill.new.block r.block.len (omega (arith, c.args.self.now.block.ok, r.size)) (grind (arith, common_steps, r.size))) at c.give-2.ensures in
    word_next r.block.items c.fill.new.block (8 * r.given) _ (g.F.Read.remaining c.fill.new.file) left c.give-2.result (omega (arith, r.size, all)) (omega (arith, long)) is c.in_ok-fill.ensures told
