-- The host call that is answered is the one that the run waits for.
use Rattle.std.proofs.Common.{◌≡◌, ◌+◌, ap, false}
use Rattle.std.proofs.lemmas.Result.{on_ok_weaker, err_from_is_err_and}
use Rattle.spec_hosts.specs.spec_runtime.Memories.{MemoryInstance}
use Rattle.spec_hosts.specs.spec_runtime.Hosts.{HostCall}
use Rattle.dyl_link.specs.host_table.Names.{host_name_of}
use Rattle.spec_hosts.specs.Ends.{are_many}
use Rattle.spec_hosts.proofs.Fronts.{asked_broken}
use Rattle.host_calls.specs.Embedders.{embedder, call_of}
use Rattle.run_loaded.specs.Courses.{course_of}
use Rattle.run_loaded.specs.Programs.{recorded_of}
use Rattle.wasm_exec.specs.Driving.{progress_of}
use Rattle.run_loaded.proofs.Hosts.{host_of_entry}
use Rattle.wasm_exec.proofs.Answering.{call_fits, awaits, is_prepared, breaks_off, asked_within}
use Rattle.wasm_exec.proofs.Proceeding.{nothing_asked}
use Rattle.wasm_exec.proofs.driver.Driver.answer.Goals as goal

pub ask-requires-clause-bound : goal.ask-requires-clause-bound
ask-requires-clause-bound g c =
    let running = c.requires.running in
    let there = host_of_entry (course_of running.0).host c.hosts.result.now (c.hosts.ensures running.0 running.2.0) c.in-Some.asked.entry c.host_at-host.result.now c.host_at-host.ensures in
    running.1 c.in-Some.asked.entry (host_name_of c.host_at-host.result.now) there

pub ask-requires-clause-declared : goal.ask-requires-clause-declared
ask-requires-clause-declared g c =
    let running = c.requires.running in
    let there = host_of_entry (course_of running.0).host c.hosts.result.now (c.hosts.ensures running.0 running.2.0) c.in-Some.asked.entry c.host_at-host.result.now c.host_at-host.ensures in
    (running.2.1.declared c.in-Some.asked.entry (host_name_of c.host_at-host.result.now) there).0

pub ask-requires-clause-arguments : goal.ask-requires-clause-arguments
ask-requires-clause-arguments g c =
    let running = c.requires.running in
    let there = host_of_entry (course_of running.0).host c.hosts.result.now (c.hosts.ensures running.0 running.2.0) c.in-Some.asked.entry c.host_at-host.result.now c.host_at-host.ensures in
    call_fits (course_of running.0) _ (progress_of c.args.self.now) running.2.1 c.in-Some.asked c.in-Some.is (host_name_of c.host_at-host.result.now) there

pub returns-in_err-answer-clause-served : goal.returns-in_err-answer-clause-served
returns-in_err-answer-clause-served g c = λ o begun drives.
    let there = host_of_entry (course_of o).host c.hosts.result.now (c.hosts.ensures o drives.0) c.in-Some.asked.entry c.host_at-host.result.now c.host_at-host.ensures in
    let event : HostCall × MemoryInstance = (call_of c.host_at-host.result.now c.in-Some.asked, c.memory.result.now) in
    let p = err_from_is_err_and c.from_residual.result c.from_residual.ensures.1 in
    rw p.1 (
      tt,
      breaks_off drives.1 c.in-Some.asked c.in-Some.is (host_name_of c.host_at-host.result.now) there c.memory.result.now (c.memory.ensures drives.1.running.stands.found o drives.0) _ (asked_broken (embedder c.args.hosts.now) event c.ask.result _ _ c.ask.ensures.asked),
    )

pub answer-requires : goal.answer-requires
answer-requires g c =
    let running = c.requires.running in
    let o = running.0 in
    let there = host_of_entry (course_of o).host c.hosts.result.now (c.hosts.ensures o running.2.0) c.in-Some.asked.entry c.host_at-host.result.now c.host_at-host.ensures in (
      o,
      running.2.0,
      awaits (course_of o) _ (progress_of c.args.self.now) running.2.1 c.in-Some.asked c.in-Some.is (host_name_of c.host_at-host.result.now) there
          c.in_ok-answer.answer c.memory.result.now (c.memory.ensures running.2.1.stands.found o running.2.0) c.in_ok-answer.ensures.fits,
    )

pub returns-clause-served : goal.returns-clause-served
returns-clause-served g c = λ o begun drives.
    let d = c.args.self.now in
    let x = recorded_of d.program in
    let h = host_name_of c.host_at-host.result.now in
    let there = host_of_entry (course_of o).host c.hosts.result.now (c.hosts.ensures o drives.0) c.in-Some.asked.entry c.host_at-host.result.now c.host_at-host.ensures in
    let event : HostCall × MemoryInstance = (call_of c.host_at-host.result.now c.in-Some.asked, c.memory.result.now) in
    let seen = c.memory.ensures drives.1.running.stands.found o drives.0 in
    let room : are_many x.answers ≡ false = rw c.in-Some.is at c.requires.room in (
      on_ok_weaker c.answer.result
          (λ same. (
            c.answer.ensures.kept o drives.0,
            is_prepared drives.1 c.in-Some.asked c.in-Some.is h there c.memory.result.now seen c.in_ok-answer.answer c.in_ok-answer.ensures.fits
                _ c.in_ok-answer.ensures.asked room (recorded_of c.answer.new.self) (d.written + c.bytes_written.result) same (ap (λ n. d.written + n) c.bytes_written.ensures.bytes),
          ))
          c.answer.ensures.recorded,
      breaks_off drives.1 c.in-Some.asked c.in-Some.is h there c.memory.result.now seen _ (asked_broken (embedder c.args.hosts.now) event c.ask.result _ _ c.ask.ensures.asked),
    )

pub returns-in_default-clause-served : goal.returns-in_default-clause-served
returns-in_default-clause-served g c = λ o begun drives.
    let next = nothing_asked drives.1 c.in_default.is in
    ((drives.0, next.0), next.1)

pub host_at-host-requires : goal.host_at-host-requires
host_at-host-requires g c =
    let running = c.requires.running in
    asked_within (course_of running.0) _ (progress_of c.args.self.now) running.2.1 c.in-Some.asked c.in-Some.is c.hosts.result.now (c.hosts.ensures running.0 running.2.0)
