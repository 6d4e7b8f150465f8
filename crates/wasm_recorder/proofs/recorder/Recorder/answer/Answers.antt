use Rattle.wasm_recorder.specs.Kept.{recorded}
use Rattle.wasm_recorder.proofs.Stepping.{awaiting_of}
use Rattle.wasm_recorder.proofs.Recording.{recorded_kept}
use Rattle.wasm_recorder.proofs.recorder.Recorder.answer.Goals as goal

pub invariant_of-self-2 : goal.invariant_of-self-2
invariant_of-self-2 g c =
    let D = g.R.Bare.runs in
    let i = c.self.inside in
    let x = recorded i.steps i.answers.items i.answered i.lost in
    recorded_kept D i.bare x c.self.invariant c.standing.ensures.tells c.memory.result.now c.memory.ensures c.args.a c.push.new.self.items c.is_of_bytes.ensures (awaiting_of D c.args.self.now i.bare x c.self.view_is c.args.a c.requires) c.in-Ok.ensures.items
