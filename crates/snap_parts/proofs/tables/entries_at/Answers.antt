use Rattle.std.proofs.Common.{◌≡◌, ◌+◌, ◌-◌, ◌≤◌, ◌<◌, length, map, take, drop, ap, ◌∙◌, arith}
use Rattle.merge_match.specs.Renumbering.{entry}
use Rattle.merge_index.specs.Kept.{numbers_in}
use Rattle.snap_module.specs.Held.{entry_expr}
use Rattle.snap_parts.proofs.TableEntries.{entries_next}
use Rattle.snap_parts.proofs.tables.entries_at.Goals as goal

pub loop-i-init : goal.loop-i-init
loop-i-init c =
    let none : 0 ≡ c.args.piece.at - c.args.piece.at = omega arith in
    c.new-list.ensures.items
    ∙ ap (λ k. map entry_expr (take k (drop c.args.piece.at (map (entry (numbers_in c.args.numbers.now)) c.args.table.now.entries)))) none

pub loop-i-preserved : goal.loop-i-preserved
loop-i-preserved c =
    let ends = c.requires.within.1 in
    let lt : c.loop-i.i < length c.args.table.now.entries = omega arith in
    entries_next (numbers_in c.args.numbers.now) c.args.table.now.entries c.args.piece.at c.loop-i.i c.loop-i.auto.i lt
    c.entry_at.result c.entry_at.ensures _ c.in_ok-entry_expr.ensures c.loop-i.list.items _ c.in_ok-push.ensures.items c.loop-i.invariant

pub returns : goal.returns
returns c =
    let le : c.loop-i.i ≤ c.args.piece.at + c.args.piece.len = c.loop-i.auto.i-end (omega arith) in
    let all : c.loop-i.i - c.args.piece.at ≡ c.args.piece.len = omega arith in
    c.of.ensures ∙ c.loop-i.invariant ∙ ap (λ k. map entry_expr (take k (drop c.args.piece.at (map (entry (numbers_in c.args.numbers.now)) c.args.table.now.entries)))) all
