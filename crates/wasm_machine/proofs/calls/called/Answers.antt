use Rattle.std.proofs.Common.{sym}
use Rattle.wasm_machine.proofs.Indirect.{entry_exists}
use Rattle.wasm_machine.proofs.Callees.{called_function, called_entry}
use Rattle.wasm_machine.proofs.calls.called.Goals as goal

pub returns-in-Function : goal.returns-in-Function
returns-in-Function g c =
    let w = g.V.View.seen c.args.view.now in
    let named = rw c.in-Function.is at c.requires.named in
    rw c.in-Function.is (called_function w.fixed w.units w.memory c.args.top.now.act c.in-Function.f c.target.result c.requires.names named (rw c.unit.ensures at c.target.ensures))

pub returns-in-Entry : goal.returns-in-Entry
returns-in-Entry g c =
    let w = g.V.View.seen c.args.view.now in
    let named = rw c.in-Entry.is at c.requires.named in
    let o = c.entry.ensures in
    let table = rw c.unit-in-Entry.ensures at o.table_is in
    rw c.in-Entry.is (
    called_entry w.fixed w.units w.memory c.args.top.now.act c.in-Entry.ty c.in-Entry.table c.number-n.result (sym c.number-n.ensures) o.entries o.wanted table (rw c.unit-in-Entry.ensures at o.type_is) c.entry.result o.result_is
    (λ r e. entry_exists w.fixed w.units c.args.top.now.act.unit c.in-Entry.table _ _ r c.requires.holds named.1 table e))
