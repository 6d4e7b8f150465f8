use Rattle.std.proofs.Common.{◌+◌, List, map, None, sym, subst}
use Rattle.merge_match.specs.Renumbering.{Numbers, entry}
use Rattle.snap_parts.specs.declared.pieces.Piece.{Piece}
use Rattle.snap_parts.specs.Found.{AreFound}
use Rattle.snap_parts.proofs.TableEntries.{entry_blank, entry_there, some_numbers}
use Rattle.snap_parts.proofs.tables.note_entry.Goals as goal

pub note-requires-clause-before : goal.note-requires-clause-before
note-requires-clause-before c = (c.requires.found some_numbers).within

pub returns-in-None : goal.returns-in-None
returns-in-None c = λ (n : Numbers).
    entry_blank n c.args.table.now.entries c.args.i c.requires.inside c.args.gap c.args.pieces.now.items (sym c.in-None.ensures) (c.requires.found n)

pub returns-in_ok-note-in-Some : goal.returns-in_ok-note-in-Some
returns-in_ok-note-in-Some c = λ (n : Numbers).
    subst (λ (l : List Piece). AreFound None c.args.gap (map (entry n) c.args.table.now.entries) (c.args.i + 1) l) (sym c.in_ok-note-in-Some.ensures)
    (entry_there n c.args.table.now.entries c.args.i c.requires.inside c.args.gap c.args.pieces.now.items c.in-Some._r (sym c.in-Some.ensures)
    (c.requires.found n))
