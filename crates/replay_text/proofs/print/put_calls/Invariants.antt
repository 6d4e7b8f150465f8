use Rattle.std.proofs.Common.{◌≡◌, ◌++◌, drop, flat_map}
use Rattle.spec_traces.specs.Texts.{call_lines}
use Rattle.spec_traces.specs.Lines.{text_of}
use Rattle.replay_text.proofs.print.put_calls.Given as goal

abbrev pub invariant-loop-call : goal.invariant-loop-call
invariant-loop-call l = l.to.items ++ text_of (flat_map call_lines (drop l.call-index l.calls)) ≡ l.fn.to.items ++ text_of (flat_map call_lines l.calls)
