-- Whatever the programs of a board do, the sinks keep what they held in front of what they hold, and no count of faults falls.
use Rattle.std.proofs.Common.{◌≡◌, ℕ, List, [], ◌∷◌, false, None, ◌⊎◌, inl, inr, refl, sym, subst, arith}
use Rattle.spec_hosts.specs.wasm_form.declared.runtime.Answer.{Answer}
use Rattle.spec_hosts.specs.spec_runs.Systems.{System, Waits, event}
use Rattle.spec_hosts.specs.spec_runtime.Memories.{MemoryInstance}
use Rattle.spec_hosts.specs.spec_runtime.Hosts.{HostCall, hosts}
use Rattle.spec_hosts.specs.spec_runtime.Courses.{Course}
use Rattle.spec_hosts.specs.Devices.{Devices, KeepsFronts}
use Rattle.spec_hosts.specs.Hosted.{Embedder, IsBroken, Hosted, BreaksOff}
use Rattle.spec_hosts.proofs.Fronts.{fronts_itself, fronts_trans, hosted_broken, cut_fronts}
use Rattle.spec_boards.specs.declared.ran.BoardRan.{BoardRan}
use Rattle.spec_boards.specs.BoardRuns.{BreaksAtTurn, IsBoardRun, IsBoardCut}
use Rattle.spec_boards.specs.Turns.{reached}
use Rattle.spec_boards.specs.Boards.{Board, turn_in}

-- a run that waits for one call, and is cut short there
abbrev waiting : System hosts
waiting = record { State = HostCall × MemoryInstance; step = λ s. None; take = λ a s. s; status = λ s. Waits s.0; memory = λ s. s.1 }

module _ (embedder : Embedder) where
  broken_fronts : (e : HostCall × MemoryInstance) (old new : Devices) → IsBroken embedder e old new → KeepsFronts old new
  broken_fronts e old new broken = cut_fronts embedder waiting (λ s. false) e 0 old new (record {
    steps = 0;
    given = [];
    middle = old;
    made = record { few = omega arith; real = tt; free = λ k lt. absurd (omega arith) };
    hosted = ([], refl, refl);
    broken = broken;
  })

  hosted_fronts : (es : List (HostCall × MemoryInstance)) (given : List Answer) (old new : Devices) → Hosted embedder es given old new → KeepsFronts old new
  hosted_fronts [] [] old new h = subst (KeepsFronts old) (sym h) (fronts_itself old)
  hosted_fronts (e ∷ es) (a ∷ given) old new h = fronts_trans (broken_fronts e old h.0 (hosted_broken embedder e a old h.0 h.1)) (hosted_fronts es given h.0 new h.2)
  hosted_fronts [] (a ∷ given) old new h = absurd h
  hosted_fronts (e ∷ es) [] old new h = absurd h

  break_fronts : (es : List (HostCall × MemoryInstance)) (old new : Devices) → BreaksOff embedder es old new → KeepsFronts old new
  break_fronts [] old new h = subst (KeepsFronts old) (sym h) (fronts_itself old)
  break_fronts (e ∷ es) old new h = broken_fronts e old new h

  module _ {P : Type 0} (course : P → Course) (programs : List P) (most slice most_turns : ℕ) (pick : ℕ → ℕ → ℕ → Type 0) (old new : Devices) where
    pub board_fronts : (r : BoardRan) → IsBoardRun course programs most slice most_turns pick embedder r old new → KeepsFronts old new
    board_fronts r run = hosted_fronts _ _ old new run.turns.hosted

    pub board_cut_fronts : IsBoardCut course programs most slice most_turns pick embedder old new → KeepsFronts old new
    board_cut_fronts cut = fronts_trans (hosted_fronts _ _ old cut.middle cut.turns.hosted) (by _ _ cut.broken)
      where
        by : (b : Board P) (turns : ℕ) → (new ≡ cut.middle) ⊎ BreaksAtTurn course b slice turns most_turns pick embedder cut.middle new → KeepsFronts cut.middle new
        by b turns (inl same) = subst (KeepsFronts cut.middle) (sym same) (fronts_itself cut.middle)
        by b turns (inr breaks) =
            let C = course breaks.may.seat.program in
            break_fronts (event C.system (reached C (turn_in course slice breaks.may.seat).place).state) cut.middle new breaks.broken
