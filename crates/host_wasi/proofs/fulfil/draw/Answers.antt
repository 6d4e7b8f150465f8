use Rattle.std.proofs.lemmas.Result.{IfOk-weaker}
use Rattle.host_wasi.proofs.fulfil.draw.Goals as goal

pub returns-in-Ok-clause-answered : goal.returns-in-Ok-clause-answered
returns-in-Ok-clause-answered g c = IfOk-weaker c.random.result _ _ (λ a is. rw is (c.in-Ok.ensures.drawn _)) (rw c.deref.ensures.value at c.random.ensures)
