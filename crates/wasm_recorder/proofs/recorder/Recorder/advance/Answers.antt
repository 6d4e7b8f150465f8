use Rattle.std.proofs.Common.{rules, sym, subst, ◌≡◌, ◌<◌, ◌⊎◌, inr, true, OnOk, OnErr}
use Rattle.wasm_machine.specs.declared.machine.Standing.TheVariants as standing
use Rattle.spec_safety.specs.spec_runtime.Courses.{state_at}
use Rattle.wasm_recorder.specs.Runs.{IsCodeNext, MayWantAt}
use Rattle.wasm_recorder.specs.Kept.{recorded}
use Rattle.wasm_recorder.proofs.Advancing.{advanced_so, code_of, tops_of, left_of, wants_of}
use Rattle.wasm_recorder.proofs.recorder.Recorder.advance.Goals as goal
use Rattle.wasm_recorder.proofs.recorder.Recorder.advance.Goals.{then-self-2, else-self-2}

pub invariant_of-self : goal.invariant_of-self
invariant_of-self g c =
    let D = g.R.Bare.runs in
    let i = c.self.inside in
    let x = recorded i.steps i.answers.items i.answered i.lost in
    let r = c.run_code in
    let moving : D.standing i.bare ≡ standing.Moving = search rules in
    (advanced_so D c.args.most i.bare r.new.bare x r.new.steps r.new.lost c.self.invariant c.if-self.false c.standing.ensures.tells moving r.ensures.sound r.ensures.whole r.ensures.key r.ensures.counted).kept

pub returns-clause-code : goal.returns-clause-code
returns-clause-code g c =
    let D = g.R.Bare.runs in
    let i = c.self.inside in
    let x = recorded i.steps i.answers.items i.answered i.lost in
    let r = c.run_code in
    let moving : D.standing i.bare ≡ standing.Moving = search rules in
    code_of D c.args.most c.args.self.now i.bare r.new.bare x _ c.self.view_is
    (advanced_so D c.args.most i.bare r.new.bare x r.new.steps r.new.lost c.self.invariant c.if-self.false c.standing.ensures.tells moving r.ensures.sound r.ensures.whole r.ensures.key r.ensures.counted)

pub returns-clause-tops : goal.returns-clause-tops
returns-clause-tops g c =
    let D = g.R.Bare.runs in
    let i = c.self.inside in
    let x = recorded i.steps i.answers.items i.answered i.lost in
    let r = c.run_code in
    let moving : D.standing i.bare ≡ standing.Moving = search rules in
    tops_of D c.args.most c.args.self.now i.bare r.new.bare x _ c.self.view_is
    (advanced_so D c.args.most i.bare r.new.bare x r.new.steps r.new.lost c.self.invariant c.if-self.false c.standing.ensures.tells moving r.ensures.sound r.ensures.whole r.ensures.key r.ensures.counted)

pub returns-clause-left : goal.returns-clause-left
returns-clause-left g c = λ o of.
    let D = g.R.Bare.runs in
    let i = c.self.inside in
    let x = recorded i.steps i.answers.items i.answered i.lost in
    let r = c.run_code in
    let moving : D.standing i.bare ≡ standing.Moving = search rules in
    let none = left_of D c.args.most c.args.self.now i.bare r.new.bare x _ c.self.view_is
    (advanced_so D c.args.most i.bare r.new.bare x r.new.steps r.new.lost c.self.invariant c.if-self.false c.standing.ensures.tells moving r.ensures.sound r.ensures.whole r.ensures.key r.ensures.counted) in
    let k = c.args.self.now.of in
    let y = recorded r.new.steps i.answers.items i.answered r.new.lost in
    let Q : Type 0 = y.steps < c.args.most → IsCodeNext D k o (state_at (D.course k o) y) → ⊥ in
    elim c.if-self-2.branch [
      | then-self-2 w ↦ subst (λ r. OnOk r Q) (sym w.result-is) tt
      | else-self-2 w ↦ subst (λ r. OnOk r Q) (sym w.result-is) (none w.if-self-2.false o of)
    ]

pub returns-clause-wanting : goal.returns-clause-wanting
returns-clause-wanting g c = λ o of.
    let D = g.R.Bare.runs in
    let i = c.self.inside in
    let x = recorded i.steps i.answers.items i.answered i.lost in
    let r = c.run_code in
    let moving : D.standing i.bare ≡ standing.Moving = search rules in
    let wants = wants_of D c.args.most c.args.self.now i.bare r.new.bare x _ c.self.view_is
    (advanced_so D c.args.most i.bare r.new.bare x r.new.steps r.new.lost c.self.invariant c.if-self.false c.standing.ensures.tells moving r.ensures.sound r.ensures.whole r.ensures.key r.ensures.counted) in
    let Q : Type 0 = (c.args.self.now.run.lost ≡ true) ⊎ MayWantAt D c.args.self.now.of o (recorded r.new.steps i.answers.items i.answered r.new.lost) in
    elim c.if-self-2.branch [
      | then-self-2 w ↦ subst (λ r. OnErr r Q) (sym w.result-is) (inr (wants w.if-self-2.true o of))
      | else-self-2 w ↦ subst (λ r. OnErr r Q) (sym w.result-is) tt
    ]
