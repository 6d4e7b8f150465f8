-- A board from before its first turn to what came of it.
use Rattle.std.proofs.Common.{◌≡◌, ℕ, List, [], ◌∷◌, slice_index_or, Result, Ok, Err, IfOk, IsErr, sym, subst}
use Rattle.std.specs.List.{All, AllZip}
use Rattle.spec_hosts.specs.wasm_form.declared.memory.Memory.{Memory}
use Rattle.spec_hosts.specs.Devices.{Devices, KeepsFronts}
use Rattle.spec_hosts.specs.Hosted.{Embedder}
use Rattle.spec_loading.specs.spec_linking.LinkedSets.{LinkedSet}
use Rattle.spec_boards.specs.declared.ran.BoardRan.{BoardRan}
use Rattle.spec_boards.proofs.BoardFronts.{board_cut_fronts}
use Rattle.spec_boards.proofs.Playing.{none_made, none_played, cut_here}
use Rattle.dyl_link.specs.host_table.declared.entry.HostTable.{HostTable}
use Rattle.dyl_store.specs.Stores.{set_course}
use Rattle.host_calls.specs.declared.hosts.Hosts.{Hosts}
use Rattle.host_calls.specs.Embedders.{names_of, embedder_of}
use Rattle.dyl_link.specs.host_table.Names.{HaveIntegers}
use Rattle.slice_board.specs.declared.board.Seat.{Seat}
use Rattle.slice_exec.specs.declared.tally.Tally.{Tally}
use Rattle.slice_exec.specs.Executed.{ExecutesBoard}
use Rattle.slice_exec.specs.Playing.{sets_in, written_in, IsSeated, IsRan, IsHostsOf, IsPlayed, RunsBoard, AreHostsOf, HaveHosts, PlayGives}
use Rattle.slice_exec.proofs.Finishing.{told}
use Rattle.slice_exec.proofs.Rounds.{cut}

-- memory was wanting before the first turn
pub runs_none : (Ls : List LinkedSet) (embedder : Embedder) (most slice turns : ℕ) (pick : ℕ → ℕ → ℕ → Type 0) (result : Result (Unit {0}) Memory) (seats : List Seat) (tally : Tally) (begun : Devices)
    → IsErr result → RunsBoard Ls embedder most slice turns pick result seats tally begun begun
runs_none Ls embedder most slice turns pick (Ok done) seats tally begun is = absurd cc
runs_none Ls embedder most slice turns pick (Err why) seats tally begun is =
    (tt, cut_here set_course Ls most slice turns pick embedder [] (none_made Ls) begun begun (none_played set_course Ls most slice turns pick embedder begun))

-- ---- what answers the calls

module _ {X : Type 0} {F : X → Type 0} {g : _} where
  pub have_hosts : (name : List ℕ) (table : HostTable X F g) (hosts lent : List (Hosts X F g)) (Ls in_place : List LinkedSet) → in_place ≡ Ls → lent ≡ hosts → AllZip (IsHostsOf name table) Ls hosts
      → All (λ (L : LinkedSet). L.names ≡ names_of table) Ls → HaveIntegers (names_of table) → HaveHosts lent in_place
  have_hosts name table hosts lent Ls in_place same is all over integers =
      subst (HaveHosts lent) (sym same) (name, table, (subst (λ hs. AllZip (IsHostsOf name table) Ls hs) (sym is) all, over, integers))

  -- turns were taken of a board that these sets had been put onto
  pub runs_played : (Ls : List LinkedSet) (name : List ℕ) (table : HostTable X F g) (hosts lent : List (Hosts X F g)) (most slice turns : ℕ) (pick held : ℕ → ℕ → ℕ → Type 0) (result : Result (Unit {0}) Memory)
      (seats news : List Seat) (told : Tally) (begun now : Devices) → sets_in seats ≡ Ls → lent ≡ hosts → held ≡ pick → AllZip (IsHostsOf name table) Ls hosts
      → All (λ (L : LinkedSet). L.names ≡ names_of table) Ls → HaveIntegers (names_of table) → PlayGives most slice turns held lent result seats news told begun now
      → RunsBoard Ls (embedder_of (name ∷ []) table) most slice turns pick result news told begun now
  runs_played Ls name table hosts lent most slice turns pick held result seats news told begun now same these is all over integers gives =
      let have : AreHostsOf name table lent (sets_in seats) =
      subst (AreHostsOf name table lent) (sym same) (subst (λ hs. AllZip (IsHostsOf name table) Ls hs) (sym these) all, over, integers)
      in
      let runs : RunsBoard (sets_in seats) (embedder_of (name ∷ []) table) most slice turns held result news told begun now = (gives.0, gives.1 name table have) in
      subst (λ (Ms : List LinkedSet). RunsBoard Ms (embedder_of (name ∷ []) table) most slice turns pick result news told begun now) same
      (subst (λ p. RunsBoard (sets_in seats) (embedder_of (name ∷ []) table) most slice turns p result news told begun now) is runs)

-- ---- what came of it

-- each program by its own limit
seated_own : (most : ℕ) (seats : List Seat) → All (λ (s : Seat). s.most ≡ most) seats → All (λ (s : Seat). IsSeated most s.store.run) seats → All (λ (s : Seat). IsSeated s.most s.store.run) seats
seated_own most seats limits each = λ k d lt. subst (λ n. IsSeated n (slice_index_or seats k d).store.run) (sym (limits k d lt)) (each k d lt)

module _ (Ls : List LinkedSet) (embedder : Embedder) (most slice turns : ℕ) (held pick : ℕ → ℕ → ℕ → Type 0) (picked : held ≡ pick)
    (result : Result (Unit {0}) Memory) (seats : List Seat) (tally : Tally) (begun now : Devices) (runs : RunsBoard Ls embedder most slice turns held result seats tally begun now) where
  by_pick : RunsBoard Ls embedder most slice turns pick result seats tally begun now
  by_pick = subst (λ p. RunsBoard Ls embedder most slice turns p result seats tally begun now) picked runs

  module _ (done : Unit {0}) (is : result ≡ Ok done) where
    ran : RunsBoard Ls embedder most slice turns pick (Ok done) seats tally begun now
    ran = subst (λ r. RunsBoard Ls embedder most slice turns pick r seats tally begun now) is by_pick

    pub seated : All (λ (s : Seat). IsSeated s.most s.store.run) seats
    seated = seated_own most seats ran.1.0.limits ran.1.0.each

    pub counted : tally.written.items ≡ written_in seats
    counted = ran.1.0.written

    module _ (last : Result BoardRan Memory) (all : IfOk last (λ r. AllZip IsRan seats r.runs)) (same : IfOk last (λ r. r.picks ≡ tally.picks.items)) where
      pub finished : ExecutesBoard Ls embedder most slice turns pick last begun now
      finished = by last all same
        where
          by : (last : Result BoardRan Memory) → IfOk last (λ r. AllZip IsRan seats r.runs) → IfOk last (λ r. r.picks ≡ tally.picks.items) → ExecutesBoard Ls embedder most slice turns pick last begun now
          by (Ok r) all same =
              let played = subst (λ (Ms : List LinkedSet). IsPlayed Ms most slice turns pick embedder seats tally begun now) (sym ran.0) ran.1 in
              subst (λ (Ms : List LinkedSet). ExecutesBoard Ms embedder most slice turns pick (Ok r) begun now) ran.0 (told most slice turns pick embedder seats tally begun now played r same all)
          by (Err why) all same = cut Ls most slice turns pick embedder seats _ tally begun now ran.1.0

    pub fronts : KeepsFronts begun now
    fronts = board_cut_fronts embedder set_course Ls most slice turns pick begun now (cut Ls most slice turns pick embedder seats _ tally begun now ran.1.0)

  module _ (why : Memory) (is : result ≡ Err why) where
    broken : RunsBoard Ls embedder most slice turns pick (Err why) seats tally begun now
    broken = subst (λ r. RunsBoard Ls embedder most slice turns pick r seats tally begun now) is by_pick

    pub stopped : (last : Result BoardRan Memory) (again : Memory) → last ≡ Err again → ExecutesBoard Ls embedder most slice turns pick last begun now
    stopped last again same = subst (λ r. ExecutesBoard Ls embedder most slice turns pick r begun now) (sym same) broken.1

    pub stopped_fronts : KeepsFronts begun now
    stopped_fronts = board_cut_fronts embedder set_course Ls most slice turns pick begun now broken.1
