use Rattle.std.proofs.Common.{arith, ◌≡◌, sym, subst}
use Rattle.std.specs.Prelude.{◌⊎◌, IfOk}
use Rattle.spec_hosts.specs.Calls as calls
use Rattle.host_wasi.specs.Wants.{wanted_by}
use Rattle.host_wasi.proofs.Moves.{write_refused}
use Rattle.host_wasi.proofs.buffers.fd_write.Goals as goal

pub returns-in-Some : goal.returns-in-Some
returns-in-Some c =
    let writable : (c.args.fd ≡ 1) ⊎ (c.args.fd ≡ 2) = grind arith in
    subst (λ (x : calls.Wanted). IfOk c.refuse-in-Some.result (λ w. wanted_by w ≡ x))
    (sym (write_refused c.args.memory.now c.args.vectors c.args.n c.args.out c.args.fd c.in-Some.errno c.in-Some.ensures writable))
    c.refuse-in-Some.ensures
