use Rattle.std.proofs.Common.{rules, ◌≡◌, ◌∙◌, ◌+◌, ◌<◌, ◌∷◌, ◌++◌, [], ap, sym, length, drop, unwrap_or}
use Rattle.std.proofs.lemmas.List.{drop_more}
use Rattle.dyl_front.specs.Lines.{program_line, board_lines}
use Rattle.dyl_front.proofs.BoardLines.{both_put}
use Rattle.dyl_front.proofs.boards.put_programs.Goals as goal

pub loop-p-preserved : goal.loop-p-preserved
loop-p-preserved c =
    let inside : c.loop-p.p < length c.args.runs.now = search rules in
    let rest = drop (c.loop-p.p + 1) c.args.runs.now in
    let split : drop c.loop-p.p c.args.runs.now ≡ c.index-runs-p.result ∷ rest =
    drop_more c.args.runs.now c.loop-p.p c.index-runs-p.result inside ∙ ap (λ run. run ∷ rest) (sym c.index-runs-p.is) in
    ap (λ x. x ++ unwrap_or (board_lines (c.loop-p.p + 1) rest) []) c.in_ok-put_program.ensures
    ∙ both_put c.loop-p.to.items (program_line c.loop-p.p c.index-runs-p.result.end) (board_lines (c.loop-p.p + 1) rest)
    ∙ sym (ap (λ runs. c.loop-p.to.items ++ unwrap_or (board_lines c.loop-p.p runs) []) split)
    ∙ c.loop-p.invariant
