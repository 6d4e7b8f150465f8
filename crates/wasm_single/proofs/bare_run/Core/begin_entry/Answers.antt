use Rattle.std.proofs.Common.{ap, sym, ◌∙◌}
use Rattle.wasm_single.specs.declared.bare_run.Core.{Core}
use Rattle.wasm_single.proofs.Calling.{entry_deep_steps, entry_steps}
use Rattle.wasm_single.proofs.bare_run.Core.begin_entry.Goals as goal

pub returns-then-not-is_begun-clause-stepped : goal.returns-then-not-is_begun-clause-stepped
returns-then-not-is_begun-clause-stepped c s k =
    let opened = c.take_mark.ensures in
    let called = c.in_ok-event.ensures in
    entry_deep_steps c.take_mark.new.self c.call.new.self c.in_ok-event.event opened.core opened.moving
    (ap (λ (x : Core). x.phase) opened.same) (ap (λ (x : Core). x.start) opened.same ∙ c.requires.started) called.told called.same
    (sym c.is_begun.ensures ∙ c.if-not-is_begun.true) s (opened.stands s k)

pub returns-clause-stepped : goal.returns-clause-stepped
returns-clause-stepped c s k =
    let opened = c.take_mark.ensures in
    let called = c.in_ok-event.ensures in
    entry_steps c.take_mark.new.self c.call.new.self c.in_ok-event.event opened.core opened.moving
    (ap (λ (x : Core). x.phase) opened.same) (ap (λ (x : Core). x.start) opened.same ∙ c.requires.started) called.told called.same
    called.over (sym c.is_begun.ensures ∙ c.if-not-is_begun.false) s (opened.stands s k)
