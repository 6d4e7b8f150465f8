-- The words so far were drawn, and the rest of them makes the whole.
use Rattle.std.proofs.Common.{◌-◌}
use Rattle.host_wasi.proofs.Drawing.{LeadsFrom}
use Rattle.host_wasi.proofs.fulfil.draw_words.Given as goal

abbrev pub invariant-loop : goal.invariant-loop
invariant-loop g l = LeadsFrom (g.A.Ambient.seen l.initial.ambient) l.count (g.A.Ambient.seen l.ambient) (l.count - l.counter) l.words.items
