-- What comes of the run, at each of its ends.
use Rattle.std.proofs.Common.{◌≡◌, arith}
use Rattle.std.proofs.lemmas.Result.{err_from_is_err_and}
use Rattle.run_loaded.specs.Programs.{recorded_of}
use Rattle.wasm_exec.proofs.Proceeding.{comes_last}
use Rattle.wasm_exec.proofs.exec.drive_on.Goals as goal

pub proceed-requires-clause-driven : goal.proceed-requires-clause-driven
proceed-requires-clause-driven g c =
    let begun = c.requires.driven in
    (begun.0, _, begun.1, c.loop-driver.invariant.leads begun.0 begun.2)

pub returns-in_err-end : goal.returns-in_err-end
returns-in_err-end g c = λ o begun.
    let p = err_from_is_err_and c.from_residual.result c.from_residual.ensures.1 in
    rw p.1 (c.in_err-end.ensures.proceeds o _ (c.loop-driver.invariant.leads o begun)).1

pub returns-in-Some : goal.returns-in-Some
returns-in-Some g c = λ o begun.
    (rw c.in-Some.is at (c.in_ok-end.ensures.proceeds o _ (c.loop-driver.invariant.leads o begun))).1

pub loop-driver-preserved : goal.loop-driver-preserved
loop-driver-preserved g c = record {
  few = c.in_ok-end.ensures.few;
  leads = λ o begun. rw c.in_default.is at (c.in_ok-end.ensures.proceeds o _ (c.loop-driver.invariant.leads o begun));
}

pub last-requires-clause-running : goal.last-requires-clause-running
last-requires-clause-running g c =
    let begun = c.requires.driven in
    let drives = c.loop-driver.invariant.leads begun.0 begun.2 in
    (_, begun.0, (drives.0, drives.1.running))

pub returns : goal.returns
returns g c = λ o begun.
    let before = c.loop-driver.invariant in
    let all : (recorded_of c.loop-driver.driver.program).steps ≡ c.args.most = omega arith in
    comes_last o c.loop-driver.driver (before.leads o begun) c.args.most all c.last.new.self c.last.result c.last.ensures.ended c.last.ensures.same
