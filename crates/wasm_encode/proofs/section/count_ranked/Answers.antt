use Rattle.std.proofs.Common.{ap, sym, ◌∙◌}
use Rattle.wasm_encode.proofs.SectionForms.{run_started, run_next, run_broken, run_ended}
use Rattle.wasm_encode.proofs.section.count_ranked.Goals as goal

pub loop-i-init : goal.loop-i-init
loop-i-init c = run_started c.args.rank c.args.customs.now

pub loop-i-preserved : goal.loop-i-preserved
loop-i-preserved c =
    run_next c.args.rank c.args.customs.now c.loop-i.i c.index-customs-i.result c.loop-i-test.true c.index-customs-i.is (ap (λ d. d.rank) c.index-customs-i.is ∙ c.if-customs-i.false) c.loop-i.invariant

pub returns-then-customs-i : goal.returns-then-customs-i
returns-then-customs-i c =
    run_broken c.args.rank c.args.customs.now c.loop-i.i c.index-customs-i.result c.loop-i-test.true c.index-customs-i.is (λ e. c.if-customs-i.true (sym (ap (λ d. d.rank) c.index-customs-i.is) ∙ e))
    c.loop-i.invariant

pub returns : goal.returns
returns c = run_ended c.args.rank c.args.customs.now c.loop-i.i c.loop-i-test.false c.loop-i.auto.i-end c.loop-i.invariant
