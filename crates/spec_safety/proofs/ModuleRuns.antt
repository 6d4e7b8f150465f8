-- What the steps of a system keep, and what it keeps of the answers that fit, its runs keep.
use Rattle.std.proofs.Common.{◌≡◌, ℕ, zero, suc, List, [], ◌∷◌, Option, Some, None, Bool, true, false, refl}
use Rattle.std.specs.Prelude.{IfSome}
use Rattle.std.specs.List.{All}
use Rattle.std.proofs.lemmas.List.Elements.{All-head, All-tail}
use Rattle.spec_execution.specs.spec_runs.Systems.{Outside, Status, Moving, Waits, Returned, Exited, Trapped, System, Ran, with_rest, only_if, next_at, next, run_from, run}
use Rattle.spec_execution.specs.OneModule.{module_system}
use Rattle.spec_safety.specs.SoundModules.{IsSound}
use Rattle.spec_safety.specs.ValueTypes.{IsOfBytes}
use Rattle.spec_safety.specs.NeverStuck.{ModuleRunIsSound}
use Rattle.spec_safety.proofs.ModuleSteps.{step_ok, answer_ok}
use Rattle.spec_safety.proofs.ModuleOpenings.{opens_sound}

module _ {O : Outside} (S : System O) (P : S.State → Type 0) (Good : O.Answer → Type 0)
    (steps : (s : S.State) → P s → S.status s ≡ Moving → (t : S.State) × (S.step s ≡ Some t) × P t)
    (answers : (s : S.State) (call : O.Call) (a : O.Answer) → P s → S.status s ≡ Waits call
    → O.fits call (S.memory s) a ≡ true → Good a → P (S.take a s)) where
  -- the state is good, and so are the answers that are left
  abbrev Keeps : S.State × List O.Answer → Type 0
  Keeps x = P x.0 × All Good x.1

  next_kept : (s : S.State) (given : List O.Answer) → P s → All Good given → (st : Status O.Call O.Trap) → S.status s ≡ st
      → IfSome (next_at S st s given) Keeps
  next_kept s given h good Moving e = (let t = steps s h e in rw t.1 (t.2, good))
  next_kept s [] h good (Waits call) e = tt
  next_kept s (a ∷ rest) h good (Waits call) e = go (O.fits call (S.memory s) a) refl
    where
      go : (b : Bool) → O.fits call (S.memory s) a ≡ b → IfSome (with_rest rest (only_if b (S.take a s))) Keeps
      go true q = (answers s call a h e q (All-head Good a rest good), All-tail Good a rest good)
      go false q = tt
  next_kept s given h good Returned e = tt
  next_kept s given h good (Exited code) e = tt
  next_kept s given h good (Trapped why) e = tt

  -- the run from where a step leads
  from_next : (s : S.State) (given : List O.Answer) (more : S.State → List O.Answer → Ran O S.State)
      → ((t : S.State) (rest : List O.Answer) → P t → All Good rest → P (more t rest).state)
      → P s → (o : Option (S.State × List O.Answer)) → IfSome o Keeps → P (run_from S s given more o).state
  from_next s given more kept h None k = h
  from_next s given more kept h (Some x) k = kept x.0 x.1 k.0 k.1

  pub run_kept : (n : ℕ) (s : S.State) (given : List O.Answer) → P s → All Good given → P (run S n s given).state
  run_kept zero s given h good = h
  run_kept (suc n) s given h good = from_next s given (run S n) (run_kept n) h (next S s given) (next_kept s given h good (S.status s) refl)

pub run_sound : ModuleRunIsSound
run_sound m names opening answers n alone numbers bytes good opens =
    run_kept (module_system m) (IsSound m) IsOfBytes (step_ok m alone numbers) (answer_ok m alone numbers) n opening answers
    (opens_sound m alone numbers bytes names opening opens) good
