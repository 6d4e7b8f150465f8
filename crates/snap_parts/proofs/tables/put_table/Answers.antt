use Rattle.std.proofs.Common.{List, ◌++◌, length, map, sym, ap, subst, ◌∙◌}
use Rattle.std.specs.List.{All}
use Rattle.merge_match.specs.Renumbering.{entry}
use Rattle.merge_index.specs.Kept.{numbers_in}
use Rattle.snap_module.specs.Held.{table_elem}
use Rattle.snap_parts.specs.declared.pieces.Piece.{Piece}
use Rattle.snap_parts.specs.Found.{EndsBy, cut}
use Rattle.snap_parts.proofs.TableEntries.{table_is, some_numbers}
use Rattle.snap_parts.proofs.tables.put_table.Goals as goal

pub put_pieces-requires-clause-within : goal.put_pieces-requires-clause-within
put_pieces-requires-clause-within c =
    subst (λ (l : List Piece). All (EndsBy (length c.args.table.now.entries)) l) (sym c.deref.ensures.value) (c.in_ok-pieces.ensures some_numbers).within

pub returns : goal.returns
returns c =
    let n = numbers_in c.args.numbers.now in
    table_is n c.args.gap c.args.t c.args.table.now c.in_ok-pieces.pieces.items (c.in_ok-pieces.ensures n) c.args.to.now.items _
    (c.in_ok-put_pieces.ensures
    ∙ ap (λ (l : List Piece). c.args.to.now.items ++ map (table_elem c.args.t) (map (cut (map (entry n) c.args.table.now.entries)) l)) c.deref.ensures.value)
