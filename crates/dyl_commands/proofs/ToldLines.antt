-- What a put of a line leaves of the errors.
use Rattle.std.proofs.Common.{◌≡◌, ℕ, List, Some, Result, Ok, Err, refl, sym, subst}
use Rattle.spec_hosts.specs.dyl_outside.declared.fault.IoFault.{IoFault}
use Rattle.spec_hosts.specs.dyl_outside.declared.fault.IoFault.TheVariants as io
use Rattle.spec_hosts.specs.dyl_outside.Faults.{FaultCount}
use Rattle.spec_hosts.specs.dyl_outside.Sink.{SinkState, Puts}
use Rattle.spec_hosts.specs.Devices.{PutsLine}
use Rattle.dyl_front.specs.declared.outcome.Outcome.{Outcome}
use Rattle.dyl_front.specs.declared.outcome.Outcome.TheVariants.{Memory}
use Rattle.dyl_front.specs.Lines.{line_of, line_with, memory_text}
use Rattle.dyl_commands.specs.Told.{TellsErrors}

-- a put of this line, unless memory was wanting in it
puts_line : (line : List ℕ) (result : Result (Unit {0}) IoFault) (old new : SinkState) → (result ≡ Err io.Memory → ⊥) → Puts line result old new → PutsLine (Some line) old new
puts_line line (Ok done) old new other put = (Ok done, put, tt)
puts_line line (Err io.Failed) old new other put = (Err io.Failed, put, tt)
puts_line line (Err io.Memory) old new other put = absurd (other refl)

pub put_tells : (o : Outcome) (line : List ℕ) (result : Result (Unit {0}) IoFault) (old new : SinkState) → line_of o ≡ Some line → (result ≡ Err io.Memory → ⊥) → Puts line result old new → TellsErrors o old new
put_tells Memory line result old new is other put =
    let same : line ≡ line_with memory_text = cc in
    (result, subst (λ l. Puts l result old new) same put)
put_tells o line result old new is other put = subst (λ l. PutsLine l old new) (sym is) (puts_line line result old new other put)

-- a put that found no memory, and then the line of Memory
pub then_tells : (line : List ℕ) (result : Result (Unit {0}) IoFault) (old mid new : SinkState) → result ≡ Err io.Memory → Puts line result old mid → TellsErrors Memory mid new → TellsErrors Memory old new
then_tells line result old mid new is p tells =
    let q : Puts line (Err io.Memory) old mid = subst (λ r. Puts line r old mid) is p in (
      tells.0,
      record {
        answer = λ before held. tells.1.answer before (q.answer before held);
        count = counted tells.0 q.count tells.1.count;
      },
    )
  where
    counted : (r : Result (Unit {0}) IoFault) → mid.faults ≡ old.faults → FaultCount r mid.faults new.faults → FaultCount r old.faults new.faults
    counted r same count = subst (λ n. FaultCount r n new.faults) same count
