-- A run whose host calls were answered took all its answers.
use Rattle.std.proofs.Common.{◌≡◌, ◌+◌, ℕ, zero, suc, List, [], ◌∷◌, length, Option, Some, None, Result, Ok, Err, refl, ap, arith, length-append}
use Rattle.spec_hosts.specs.wasm_form.declared.memory.Memory.{Memory}
use Rattle.spec_hosts.specs.wasm_form.declared.runtime.Answer.{Answer}
use Rattle.spec_hosts.specs.spec_runs.Systems.{Outside, Status, Moving, Waits, Returned, Exited, Trapped, System, with_rest, only_if, next_at, next, event_at, event, run_from, run}
use Rattle.spec_hosts.specs.spec_runtime.Memories.{MemoryInstance}
use Rattle.spec_hosts.specs.spec_runtime.Hosts.{HostCall}
use Rattle.spec_hosts.specs.Devices.{Devices}
use Rattle.spec_hosts.specs.Hosted.{Embedder, Hosted}
use Rattle.spec_hosts.specs.declared.ran.Ran as run
use Rattle.spec_loading.specs.spec_linking.LinkedSets.{LinkedSet}
use Rattle.spec_hosts.specs.spec_runtime.Courses.{Course}
use Rattle.run_loaded.specs.Courses.{OfSet, course_of, TakesAll}
use Rattle.wasm_exec.specs.Driving.{CourseGives}
use Rattle.wasm_exec.specs.Executed.{SetTakesAll}

rest_kept : {X A : Type 0} (o : Option X) (rest : List A) (x : X × List A) → with_rest rest o ≡ Some x → length x.1 ≡ length rest
rest_kept None rest x e = absurd cc
rest_kept (Some y) rest x e = let same : x.1 ≡ rest = cc in ap length same

module _ {O : Outside} (S : System O) where
  -- a step takes as many answers as its state has events
  one_taken : (status : Status O.Call O.Trap) (s : S.State) (given : List O.Answer) (x : S.State × List O.Answer) → next_at S status s given ≡ Some x
      → length (event_at status (S.memory s)) + length x.1 ≡ length given
  one_taken Moving s given x e = let same = rest_kept (S.step s) given x e in omega arith
  one_taken (Waits call) s [] x e = absurd cc
  one_taken (Waits call) s (a ∷ rest) x e = let same = rest_kept (only_if (O.fits call (S.memory s) a) (S.take a s)) rest x e in omega arith
  one_taken Returned s given x e = absurd cc
  one_taken (Exited code) s given x e = absurd cc
  one_taken (Trapped why) s given x e = absurd cc

  -- each event but that of the last state was answered
  each_taken : (n : ℕ) (s : S.State) (given : List O.Answer) → length (run S n s given).events + length (run S n s given).left ≡ length given + length (event S (run S n s given).state)
  each_taken zero s given = omega arith
  each_taken (suc n) s given = go (next S s given) refl (λ x. each_taken n x.0 x.1)
    where
      go : (o : Option (S.State × List O.Answer)) → next S s given ≡ o
          → ((x : S.State × List O.Answer) → length (run S n x.0 x.1).events + length (run S n x.0 x.1).left ≡ length x.1 + length (event S (run S n x.0 x.1).state))
          → length (run_from S s given (run S n) o).events + length (run_from S s given (run S n) o).left ≡ length given + length (event S (run_from S s given (run S n) o).state)
      go None e more = omega arith
      go (Some x) e more =
          let one = one_taken (S.status s) s given x e in
          let rest = more x in
          let both = length-append (event S s) (run S n x.0 x.1).events in
          omega arith

-- each call that was hosted has its answer
hosted_count : (embedder : Embedder) (calls : List (HostCall × MemoryInstance)) (given : List Answer) (old new : Devices) → Hosted embedder calls given old new → length calls ≡ length given
hosted_count embedder [] [] old new h = refl
hosted_count embedder (e ∷ es) (a ∷ given) old new h = ap suc (hosted_count embedder es given h.0 new h.2)
hosted_count embedder [] (a ∷ given) old new h = absurd h
hosted_count embedder (e ∷ es) [] old new h = absurd h

none_there : {A : Type 0} (xs : List A) → length xs ≡ 0 → xs ≡ []
none_there [] e = refl
none_there (x ∷ xs) e = absurd (omega arith)

module _ (embedder : Embedder) (most : ℕ) (begun now : Devices) where
  pub all_taken : (C : Course) (r : run.Ran) → CourseGives C embedder most (Ok r) begun now → TakesAll C r
  all_taken C r ran =
      let at = run C.system r.steps C.opening r.answers in
      let counted = each_taken C.system r.steps C.opening r.answers in
      let events = ap length ran.hosted.1 in
      let both = length-append ran.hosted.0 (event C.system at.state) in
      let answered = hosted_count embedder ran.hosted.0 r.answers begun now ran.hosted.2 in
      none_there at.left (omega arith)

  -- the same of a set
  pub set_taken : (L : LinkedSet) (r : Result run.Ran Memory) → CourseGives (course_of (OfSet L)) embedder most r begun now → SetTakesAll L r
  set_taken L (Ok r) gives = all_taken (course_of (OfSet L)) r gives
  set_taken L (Err why) gives = tt
