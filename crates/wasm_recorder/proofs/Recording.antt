-- What one answer more makes of the run.
use Rattle.std.proofs.Common.{◌≡◌, [], ◌∷◌, ◌++◌, List, true, refl, sym, ◌∙◌, subst}
use Rattle.std.specs.Prelude.{IsTrue}
use Rattle.std.specs.List.{All}
use Rattle.std.proofs.lemmas.List.Elements.{All-nil, All-cons, All-append}
use Rattle.std.proofs.lemmas.Option.{same_Some}
use Rattle.wasm_form.specs.declared.runtime.Trap.{Trap}
use Rattle.wasm_form.specs.declared.runtime.Answer.{Answer}
use Rattle.spec_safety.specs.spec_runs.Systems.{Status, Waits}
use Rattle.spec_safety.specs.spec_runtime.Names.{HostName}
use Rattle.spec_safety.specs.spec_runtime.Memories.{MemoryInstance}
use Rattle.spec_safety.specs.spec_runtime.Hosts.{HostCall, answer_fits}
use Rattle.spec_safety.specs.spec_runtime.Recorded.{Recorded, FitsWait}
use Rattle.spec_safety.specs.ValueTypes.{IsOfBytes}
use Rattle.spec_safety.specs.spec_runtime.Courses.{state_at, status_at, memory_at}
use Rattle.wasm_machine.specs.declared.machine.Standing.{Standing}
use Rattle.wasm_machine.specs.declared.machine.Standing.TheVariants as standing
use Rattle.wasm_machine.proofs.Courses.{at_recorded}
use Rattle.wasm_recorder.specs.Bares.{Bares, StandsSo}
use Rattle.wasm_recorder.specs.Runs.{Tells, Shows}
use Rattle.wasm_recorder.specs.Kept.{run_of, StandsFrom, IsKept}
use Rattle.wasm_recorder.proofs.Stepping.{IsAwaiting, stands_so}

-- an answer that fits one call of a machine fits each
fits_each : (hosts : List HostName) (st : Standing) (a : Answer) (memory : MemoryInstance) (one other : Status HostCall Trap) → StandsSo hosts st one → StandsSo hosts st other → FitsWait a one memory
    → (call : HostCall) × (other ≡ Waits call) × IsTrue (answer_fits call memory a)
fits_each hosts (standing.Asking entry count) a memory one other h k fits =
    let fits_one : IsTrue (answer_fits h.0 memory a) = subst (λ status. FitsWait a status memory) h.1 fits in
    let same : h.0.host ≡ k.0.host = same_Some h.0.host k.0.host (sym h.2 ∙ k.2) in
    let P : HostName → Type 0 = λ n. IsTrue (answer_fits (record { host = n; args = k.0.args }) memory a) in
    (k.0, k.1, subst P same fits_one)
fits_each hosts standing.Moving a memory one other h k fits = absurd (subst (λ status. FitsWait a status memory) h fits)
fits_each hosts standing.Loading a memory one other h k fits = absurd h
fits_each hosts standing.Returned a memory one other h k fits = absurd (subst (λ status. FitsWait a status memory) h fits)
fits_each hosts (standing.Trapped why) a memory one other h k fits = absurd (subst (λ status. FitsWait a status memory) h fits)
fits_each hosts (standing.Exited code) a memory one other h k fits = absurd (subst (λ status. FitsWait a status memory) h fits)
fits_each hosts standing.Lost a memory one other h k fits = absurd h

module _ {B K : Type 0} (D : Bares B K) (b : B) (x : Recorded) (h : IsKept D b x) (tells : Tells D b) (memory : MemoryInstance) (shows : Shows D b memory) where
  pub recorded_kept : (a : Answer) (items : List Answer) → IsOfBytes a → IsAwaiting D a (run_of D b x) → items ≡ x.answers ++ a ∷ [] → IsKept D b (record x { answers = items; answered = true })
  recorded_kept a items of_bytes w more =
      let k = D.key b in
      let found = w.2.1 in
      let space : (o : D.Origin) → D.IsOf k o → memory ≡ memory_at (D.course k o) x = λ o of. shows o of (state_at (D.course k o) x) (h.stands found o of).1 in
      let fits : FitsWait a (status_at (D.course k w.0) x) memory = subst (λ m. FitsWait a (status_at (D.course k w.0) x) m) (sym (space w.0 w.1)) w.2.2 in
      record {
        whole = h.whole;
        bytes = subst (All IsOfBytes) (sym more) (All-append IsOfBytes x.answers (a ∷ []) h.bytes (All-cons IsOfBytes a [] of_bytes (All-nil IsOfBytes)));
        origin = h.origin;
        sound = h.sound;
        stands = λ _ o of.
            let C = D.course k o in
            let from = h.stands found o of in
            let call = fits_each (D.hosts k) (D.standing b) a memory (status_at (D.course k w.0) x) (status_at C x) (stands_so D b x h found (D.standing b) refl tells w.0 w.1) (stands_so D b x h found (D.standing b) refl tells o of) fits in
            let s = at_recorded C x from.0 call.0 a w.2.0 call.1 (subst (λ m. IsTrue (answer_fits call.0 m a)) (space o of) call.2) in
            let P : List Answer → Type 0 = λ l. let y : Recorded = record x { answers = l; answered = true } in StandsFrom D k o y b in
            subst P (sym more) (s.0, subst (D.IsState b k o) (sym s.1) from.1);
      }
