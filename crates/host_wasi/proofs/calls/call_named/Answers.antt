use Rattle.std.proofs.Common.{false, ap, sym, ◌∙◌}
use Rattle.std.specs.Str.{bytes_eq}
use Rattle.host_wasi.specs.declared.calls.TheConstants.{CALLS}
use Rattle.host_wasi.specs.declared.calls.Call.TheVariants.{ArgsSizesGet}
use Rattle.host_wasi.proofs.NamedCalls.{first_named_next}
use Rattle.host_wasi.proofs.calls.call_named.Goals as goal

pub loop-call-preserved : goal.loop-call-preserved
loop-call-preserved c =
    let test = ap (bytes_eq c.args.name.now) (sym c.name.ensures) ∙ sym c.if-eq.ensures in
    sym (first_named_next c.args.name.now CALLS c.loop-call.call-index ArgsSizesGet false c.loop-call-test.true test) ∙ c.loop-call.invariant
