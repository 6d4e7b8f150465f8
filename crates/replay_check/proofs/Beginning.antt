-- A run that has made no step.
use Rattle.std.proofs.Common.{◌≡◌, map, sum, Option, None, refl, sym, ap, subst, arith}
use Rattle.spec_traces.specs.spec_hosts.wasm_form.declared.runtime.Asked.{Asked}
use Rattle.spec_traces.specs.spec_hosts.spec_runs.Systems.{Moving}
use Rattle.spec_traces.specs.spec_hosts.spec_runtime.Recorded.{Recorded, waits}
use Rattle.spec_traces.specs.spec_hosts.spec_runtime.Courses.{Course, no_steps, status_at}
use Rattle.spec_traces.specs.spec_hosts.Ends.{bytes_written}
use Rattle.spec_traces.specs.declared.trace.Trace.{Trace}
use Rattle.replay_check.specs.Following.{IsAskedOf, HasFollowed}

abbrev nothing : Option Asked
nothing = None

-- it follows any trace
pub has_begun : (C : Course) (t : Trace) (x : Recorded) → x ≡ no_steps → C.system.status C.opening ≡ Moving
    → HasFollowed C t 0 x × IsAskedOf C.host (status_at C x) nothing × (0 ≡ sum (map bytes_written x.answers))
has_begun C t x fresh moving =
    subst (λ x. HasFollowed C t 0 x × IsAskedOf C.host (status_at C x) nothing × (0 ≡ sum (map bytes_written x.answers))) (sym fresh) (
      record {
        stands = record { found = refl; run = refl; real = tt; left = refl };
        taken = refl;
        within = omega arith;
        answers = refl;
        agrees = λ j c lt at. absurd (omega arith);
        free = λ j lt. absurd (omega arith);
      },
      ap waits moving,
      refl,
    )
