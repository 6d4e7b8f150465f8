-- Whether the call of the trace is what is asked.
use Rattle.std.proofs.Common.{◌∙◌, ap}
use Rattle.spec_traces.specs.spec_hosts.spec_runtime.Hosts.{fits_results}
use Rattle.dyl_link.specs.host_table.Names.{host_name_of}
use Rattle.run_loaded.specs.Courses.{course_of}
use Rattle.run_loaded.proofs.Hosts.{host_of_entry}
use Rattle.replay_check.proofs.Replaying.{isnt_asked, fits_asked}
use Rattle.replay_check.proofs.replay.Replay.is_asked.Goals as goal

pub returns-then-not-is_call : goal.returns-then-not-is_call
returns-then-not-is_call c = λ o t k follows.
    let h = c.host_at-host.result.now in
    let there = host_of_entry (course_of o).host c.hosts.result.now (c.hosts.ensures o follows.of) c.in-Some.asked.entry h c.host_at-host.ensures in
    isnt_asked o t k c.args.self.now follows c.in-Some.asked c.in-Some.is (host_name_of h) there c.args.call.now c.if-not-is_call.ensures

pub returns : goal.returns
returns c = λ o t k follows.
    let h = c.host_at-host.result.now in
    let answer = c.args.call.now.answer in
    let there = host_of_entry (course_of o).host c.hosts.result.now (c.hosts.ensures o follows.of) c.in-Some.asked.entry h c.host_at-host.ensures in
    let types = ap (λ types. fits_results types c.memory.result.now answer) c.items.ensures in
    let memory = ap (λ memory. fits_results h.ty.results memory answer) (c.memory.ensures follows.followed.stands.found o follows.of) in
    fits_asked o t k c.args.self.now follows c.in-Some.asked c.in-Some.is (host_name_of h) there c.args.call.now c.if-not-is_call.ensures c.fits.result (c.fits.ensures ∙ types ∙ memory)
