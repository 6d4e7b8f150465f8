use Rattle.std.proofs.Common.{sym, subst}
use Rattle.wasm_machine.specs.Steps.{Awaits}
use Rattle.dyl_store.specs.Stores.{StoreRun, set_course}
use Rattle.dyl_store.proofs.store.Store.answer.Goals as goal

pub answer-requires : goal.answer-requires
answer-requires c = (tt, tt, subst (λ (v : StoreRun). Awaits (set_course v.linked) v.run c.args.a) (sym c.self.view_is) c.requires)
