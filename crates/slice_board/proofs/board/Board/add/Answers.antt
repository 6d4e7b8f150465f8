use Rattle.std.proofs.Common.{◌≡◌, ◌≤◌, is_ok, length, ap, arith}
use Rattle.spec_loading.specs.spec_runtime.Recorded.{Recorded}
use Rattle.slice_board.proofs.Seating.{added_few, added_within}
use Rattle.slice_board.proofs.board.Board.add.Goals as goal

pub invariant_of-self : goal.invariant_of-self
invariant_of-self g c =
    let b = c.args.self.now in
    let none : c.args.store.run.steps ≡ 0 = ap (λ (x : Recorded). x.steps) c.requires in
    let few : length b.seats.items ≤ 64 = b.few in
    record {
      few = added_few b.seats.items c.push.new.self.items (record { store = c.args.store; most = c.args.steps }) (is_ok c.push.result) c.push.ensures.items
          few (λ e. omega (arith, e, c.if-len-eq-MOST_PROGRAMS.false, c.len.ensures));
      within = added_within b.seats.items c.push.new.self.items (record { store = c.args.store; most = c.args.steps }) (is_ok c.push.result) c.push.ensures.items (omega arith) b.within;
    }
