use Rattle.std.proofs.Common.{◌+◌, sym}
use Rattle.std.proofs.lemmas.List.{take_rest}
use Rattle.replay_text.proofs.Lines.{found_line, no_line_found}
use Rattle.replay_text.proofs.read.first_line.Goals as goal

pub returns-in_err-end : goal.returns-in_err-end
returns-in_err-end c = rw c.from_residual.ensures (no_line_found c.args.bytes.now (sym c.in_err-end.ensures))

pub returns : goal.returns
returns c = rw (take_rest c.args.bytes.now (c.in_ok-end.end + 1)) (found_line c.args.bytes.now c.in_ok-end.end (sym c.in_ok-end.ensures)).1
