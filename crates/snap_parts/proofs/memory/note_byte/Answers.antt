use Rattle.std.proofs.Common.{sym, ◌∙◌, subst}
use Rattle.snap_parts.specs.declared.pieces.Piece.{Piece}
use Rattle.snap_parts.specs.Found.{AreFound}
use Rattle.std.proofs.Common.{List, ◌+◌}
use Rattle.snap_parts.proofs.Founds.{found_blank, found_item}
use Rattle.snap_parts.proofs.memory.note_byte.Goals as goal

pub returns-then-byte-eq0 : goal.returns-then-byte-eq0
returns-then-byte-eq0 c =
    found_blank 0 c.args.gap c.args.memory.now.bytes c.args.i c.args.pieces.now.items c.requires.inside (sym c.requires.is ∙ c.if-byte-eq0.true) c.requires.found

pub returns : goal.returns
returns c =
    subst (λ (l : List Piece). AreFound 0 c.args.gap c.args.memory.now.bytes (c.args.i + 1) l) (sym c.in_ok-note.ensures)
    (found_item 0 c.args.gap c.args.memory.now.bytes c.args.i c.args.pieces.now.items c.requires.inside
    (λ e. c.if-byte-eq0.false (c.requires.is ∙ e)) c.requires.found)
