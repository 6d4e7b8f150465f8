use Rattle.std.proofs.Common.{ap, sym, ◌∙◌}
use Rattle.wasm_single.specs.declared.bare_run.Core.{Core}
use Rattle.wasm_single.proofs.Calling.{start_deep_steps, start_steps}
use Rattle.wasm_single.proofs.bare_run.Core.begin_start.Goals as goal

pub returns-then-not-is_begun-clause-stepped : goal.returns-then-not-is_begun-clause-stepped
returns-then-not-is_begun-clause-stepped c s k =
    let marked = c.in_ok-put_mark.ensures in
    let called = c.in_ok-event.ensures in
    start_deep_steps c.put_mark.new.self c.call.new.self c.in_ok-event.event c.args.f marked.core marked.moving marked.clear
    (ap (λ (x : Core). x.phase) marked.same) (ap (λ (x : Core). x.start) marked.same ∙ c.requires.start) called.told called.same
    (sym c.is_begun.ensures ∙ c.if-not-is_begun.true) s (marked.stands s k)

pub returns-clause-stepped : goal.returns-clause-stepped
returns-clause-stepped c s k =
    let marked = c.in_ok-put_mark.ensures in
    let called = c.in_ok-event.ensures in
    start_steps c.put_mark.new.self c.call.new.self c.in_ok-event.event c.args.f marked.core marked.moving marked.clear
    (ap (λ (x : Core). x.phase) marked.same) (ap (λ (x : Core). x.start) marked.same ∙ c.requires.start) called.told called.same
    called.over (sym c.is_begun.ensures ∙ c.if-not-is_begun.false) s (marked.stands s k)
