-- The reply fits the type of the entry, which is that of the call.
use Rattle.std.proofs.Common.{◌≡◌, ◌*◌, length, IsTrue, sym, subst, slice_get}
use Rattle.std.proofs.lemmas.Result.{IfOk-weaker}
use Rattle.spec_hosts.specs.spec_runtime.Hosts.{fits_results}
use Rattle.host_calls.proofs.Replies.{entry_fits}
use Rattle.host_calls.proofs.table.ask_table.Goals as goal

pub returns-clause-fits : goal.returns-clause-fits
returns-clause-fits g c =
    let memory = c.args.memory.now in
    let ty = c.args.host.now.ty in
    let r = c.call-reply.result in
    let whole : c.from-size.result * 65536 ≡ length memory.bytes = rw c.from-size.ensures (sym c.size.ensures.whole) in
    let fits = entry_fits (λ e. e.host.ty) (slice_get c.args.table.now.entries.items c.declared_entry-entry.result) ty memory (c.from-size.result * 65536) r c.declared_entry-entry.ensures.typed c.call-reply.ensures.fits whole in
    IfOk-weaker c.answer_of.result _ _ (λ a e. subst (λ x. IsTrue (fits_results ty.results memory x)) (sym e) fits) c.answer_of.ensures
