-- What came of the run, once its steps are made.
use Rattle.wasm_exec.proofs.exec.drive.Goals as goal

pub returns-in-Ok : goal.returns-in-Ok
returns-in-Ok g c = λ o begun. rw c.finish.ensures (c.in-Ok.ensures o begun)

pub returns-in-Err : goal.returns-in-Err
returns-in-Err g c = c.in-Err.ensures
