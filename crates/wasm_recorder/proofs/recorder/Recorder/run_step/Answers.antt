use Rattle.wasm_recorder.specs.Kept.{recorded}
use Rattle.wasm_recorder.proofs.Stepping.{told_of, answered_of, bare_stepped, last_found, last_taken, taken_stepped}
use Rattle.wasm_recorder.proofs.recorder.Recorder.run_step.Goals as goal

pub invariant_of-self-in-Moving : goal.invariant_of-self-in-Moving
invariant_of-self-in-Moving g c =
    let D = g.R.Bare.runs in
    let i = c.self.inside in
    let x = recorded i.steps i.answers.items i.answered i.lost in
    let s = c.in-Ok.ensures in
    (bare_stepped D i.bare x c.self.invariant c.if-self.false c.standing.result c.standing.ensures.is c.standing.ensures.tells c.in-Moving.is c.in-Ok.event c.step.new.self c.steps_told.result s.stepped s.sound c.step.ensures.whole c.step.ensures.key c.steps_told.ensures).kept

pub returns-in-Ok-clause-stepped : goal.returns-in-Ok-clause-stepped
returns-in-Ok-clause-stepped g c =
    let D = g.R.Bare.runs in
    let i = c.self.inside in
    let x = recorded i.steps i.answers.items i.answered i.lost in
    let s = c.in-Ok.ensures in
    told_of D c.args.self.now i.bare x c.self.view_is c.in-Ok.event _
    (bare_stepped D i.bare x c.self.invariant c.if-self.false c.standing.result c.standing.ensures.is c.standing.ensures.tells c.in-Moving.is c.in-Ok.event c.step.new.self c.steps_told.result s.stepped s.sound c.step.ensures.whole c.step.ensures.key c.steps_told.ensures).told

pub unreachable-requires : goal.unreachable-requires
unreachable-requires g c =
    let D = g.R.Bare.runs in
    let i = c.self.inside in
    let x = recorded i.steps i.answers.items i.answered i.lost in
    last_found D i.bare x c.self.invariant c.if-self.false c.standing.result c.standing.ensures.is c.standing.ensures.tells c.in-Asking.field-0 c.in-Asking.field-1 c.in-Asking.is c.deref.result.now c.deref.ensures.value
    (answered_of D c.args.self.now i.bare x c.self.view_is c.requires.answered) c.in_default-last.ensures.value

pub take-requires-clause-fits : goal.take-requires-clause-fits
take-requires-clause-fits g c =
    let D = g.R.Bare.runs in
    let i = c.self.inside in
    let x = recorded i.steps i.answers.items i.answered i.lost in
    last_taken D i.bare x c.self.invariant c.if-self.false c.standing.result c.standing.ensures.is c.standing.ensures.tells c.in-Asking.field-0 c.in-Asking.field-1 c.in-Asking.is c.deref.result.now c.deref.ensures.value
    (answered_of D c.args.self.now i.bare x c.self.view_is c.requires.answered) c.in-Some.answer.now c.in-Some.ensures.value

pub invariant_of-self-in-Asking : goal.invariant_of-self-in-Asking
invariant_of-self-in-Asking g c =
    let D = g.R.Bare.runs in
    let i = c.self.inside in
    let x = recorded i.steps i.answers.items i.answered i.lost in
    let t = c.take.ensures in
    (taken_stepped D i.bare x c.self.invariant c.if-self.false c.standing.result c.standing.ensures.is c.standing.ensures.tells c.in-Asking.field-0 c.in-Asking.field-1 c.in-Asking.is c.deref.result.now c.deref.ensures.value
    (answered_of D c.args.self.now i.bare x c.self.view_is c.requires.answered) c.in-Some.answer.now c.in-Some.ensures.value c.event_of.result c.take.new.self c.standing-in-Asking.result t.taken t.sound t.whole t.key c.standing-in-Asking.ensures.is c.standing-in-Asking.ensures.tells c.event_of.ensures).kept

pub returns-in-Some-clause-stepped : goal.returns-in-Some-clause-stepped
returns-in-Some-clause-stepped g c =
    let D = g.R.Bare.runs in
    let i = c.self.inside in
    let x = recorded i.steps i.answers.items i.answered i.lost in
    let t = c.take.ensures in
    told_of D c.args.self.now i.bare x c.self.view_is c.event_of.result _
    (taken_stepped D i.bare x c.self.invariant c.if-self.false c.standing.result c.standing.ensures.is c.standing.ensures.tells c.in-Asking.field-0 c.in-Asking.field-1 c.in-Asking.is c.deref.result.now c.deref.ensures.value
    (answered_of D c.args.self.now i.bare x c.self.view_is c.requires.answered) c.in-Some.answer.now c.in-Some.ensures.value c.event_of.result c.take.new.self c.standing-in-Asking.result t.taken t.sound t.whole t.key c.standing-in-Asking.ensures.is c.standing-in-Asking.ensures.tells c.event_of.ensures).told
