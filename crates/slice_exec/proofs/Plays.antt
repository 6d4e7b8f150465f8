-- The turns of a board, from before the first one.
use Rattle.std.proofs.Common.{◌≡◌, ◌<◌, ℕ, List, [], ◌∷◌, length, ◌⊎◌, Result, Ok, Err, sym, subst}
use Rattle.std.specs.List.{All}
use Rattle.spec_hosts.specs.wasm_form.declared.memory.Memory.{Memory}
use Rattle.spec_hosts.specs.Devices.{Devices}
use Rattle.spec_loading.specs.spec_linking.LinkedSets.{LinkedSet}
use Rattle.dyl_link.specs.host_table.declared.entry.HostTable.{HostTable}
use Rattle.host_calls.specs.declared.hosts.Hosts.{Hosts}
use Rattle.host_calls.specs.Embedders.{embedder_of}
use Rattle.slice_board.specs.declared.board.Seat.{Seat}
use Rattle.slice_exec.specs.declared.tally.Tally.{Tally}
use Rattle.slice_exec.specs.Playing.{sets_in, written_in, IsSeated, SomeGoes, AllDone, IsAtRound, RoundComes, IsFresh, AreHostsOf, HaveHosts, IsReady, RoundGives, IsPlaying, PlayGives}
use Rattle.slice_exec.proofs.Beginning.{begins}

module _ {X : Type 0} {F : X → Type 0} {g : _} (most slice turns : ℕ) (pick : ℕ → ℕ → ℕ → Type 0) (hosts : List (Hosts X F g)) (olds : List Seat) (begun : Devices) where
  abbrev Plays : List Seat → ℕ → Tally → Devices → Type 0
  Plays seats turn tally now = IsPlaying most slice turns pick hosts olds seats turn tally begun now

  pub starts : (turn : ℕ) (tally : Tally) → IsFresh most olds turn tally → Plays olds turn tally begun
  starts turn tally fresh = λ name table have. begins most slice turns pick (embedder_of (name ∷ []) table) olds turn tally begun fresh

  module _ (seats : List Seat) (turn : ℕ) (tally : Tally) (now : Devices) (plays : Plays seats turn tally now) (same : sets_in seats ≡ sets_in olds) where
    -- where it has come, by its sets as they stand
    here : (name : List ℕ) (table : HostTable X F g) → AreHostsOf name table hosts (sets_in seats) → IsAtRound (sets_in seats) most slice turns pick (embedder_of (name ∷ []) table) seats turn tally begun now
    here name table have =
        subst (λ (Ls : List LinkedSet). IsAtRound Ls most slice turns pick (embedder_of (name ∷ []) table) seats turn tally begun now) (sym same) (plays name table (subst (AreHostsOf name table hosts) same have))

    module _ (have : HaveHosts hosts (sets_in olds)) where
      pub seated_all : All (λ (s : Seat). IsSeated most s.store.run) seats
      seated_all = (plays have.0 have.1 have.2).each

      pub written_all : tally.written.items ≡ written_in seats
      written_all = (plays have.0 have.1 have.2).written

      -- a further turn may be taken
      pub ready : turns < 4294967296 → length tally.picks.items < turns → SomeGoes most seats → IsReady slice pick hosts seats turn tally now
      ready few lt goes =
          let hosted = subst (AreHostsOf have.0 have.1 hosts) (sym same) have.2 in
          (have.0, have.1, hosted, most, turns, begun, here have.0 have.1 hosted, few, lt, goes)

    -- what came of it, by the sets that the board was begun with
    further : (result : Result (Unit {0}) Memory) (news : List Seat) (next : ℕ) (told : Tally) (after : Devices) → turns < 4294967296 → length tally.picks.items < turns → SomeGoes most seats
        → RoundGives slice pick hosts result seats turn tally news next told now after → (name : List ℕ) (table : HostTable X F g) → AreHostsOf name table hosts (sets_in olds)
        → RoundComes result (sets_in olds) most slice turns pick (embedder_of (name ∷ []) table) news next told begun after
    further result news next told after few lt goes gives name table have =
        let hosted = subst (AreHostsOf name table hosts) (sym same) have in
        subst (λ (Ls : List LinkedSet). RoundComes result Ls most slice turns pick (embedder_of (name ∷ []) table) news next told begun after) same
        (gives.1 name table hosted most turns begun (here name table hosted) few lt goes)

    -- it was taken
    pub more : (done : Unit {0}) (news : List Seat) (next : ℕ) (told : Tally) (after : Devices) → turns < 4294967296 → length tally.picks.items < turns → SomeGoes most seats
        → RoundGives slice pick hosts (Ok done) seats turn tally news next told now after → Plays news next told after
    more done news next told after few lt goes gives = further (Ok done) news next told after few lt goes gives

    -- memory was wanting
    pub cut_short : (why : Memory) (news : List Seat) (next : ℕ) (told last : Tally) (ends : List Seat) (after : Devices) → turns < 4294967296 → length tally.picks.items < turns → SomeGoes most seats
        → RoundGives slice pick hosts (Err why) seats turn tally news next told now after → PlayGives most slice turns pick hosts (Err why) olds ends last begun after
    cut_short why news next told last ends after few lt goes gives = (tt, further (Err why) news next told after few lt goes gives)

    -- no further one is taken
    pub ended : (done : Unit {0}) → (length tally.picks.items ≡ turns) ⊎ AllDone most seats → PlayGives most slice turns pick hosts (Ok done) olds seats tally begun now
    ended done either = (
      same,
      λ name table have.
          let at = plays name table have in
          (subst (λ n. IsAtRound (sets_in olds) most slice turns pick (embedder_of (name ∷ []) table) seats n tally begun now) at.counted at, either),
    )
