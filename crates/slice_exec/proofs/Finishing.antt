-- What came of a board, once its turns were taken.
use Rattle.std.proofs.Common.{◌≡◌, ℕ, zero, suc, Bool, true, List, [], ◌∷◌, length, map, nat_eq, slice_get, Some, ◌⊎◌, inl, inr, refl, sym, ◌∙◌, subst, arith}
use Rattle.std.specs.List.{AllZip}
use Rattle.std.proofs.lemmas.Bool.Decides.{nat_tests}
use Rattle.std.proofs.lemmas.List.{length-map}
use Rattle.std.proofs.lemmas.Option.{same_Some}
use Rattle.spec_hosts.specs.Devices.{Devices}
use Rattle.spec_hosts.specs.Hosted.{Embedder}
use Rattle.spec_hosts.specs.declared.ran.Ran.{Ran}
use Rattle.spec_loading.specs.spec_linking.LinkedSets.{LinkedSet}
use Rattle.spec_boards.specs.declared.ran.BoardRan.{BoardRan}
use Rattle.spec_boards.specs.Turns.{Place}
use Rattle.spec_boards.specs.BoardRuns.{EndsBy, IsRanAs, IsBoardRun}
use Rattle.spec_boards.specs.Played.{given_at}
use Rattle.spec_boards.proofs.Ending.{ends_used}
use Rattle.spec_boards.proofs.Playing.{board_ran}
use Rattle.dyl_store.specs.Stores.{set_course}
use Rattle.slice_board.specs.Taken.{place_of}
use Rattle.slice_board.specs.declared.board.Seat.{Seat}
use Rattle.slice_exec.specs.declared.tally.Tally.{Tally}
use Rattle.slice_exec.specs.Playing.{sets_in, places_in, IsSeated, IsFreeSeat, IsDone, AllDone, IsRan, IsPlayed}
use Rattle.slice_exec.proofs.Lists.{all_at, zip_at, zip_length}
use Rattle.slice_exec.proofs.Rounds.{set_there}

ran_answers : (seats : List Seat) (runs : List Ran) → AllZip IsRan seats runs → map (λ (r : Ran). r.answers) runs ≡ given_at (places_in seats)
ran_answers [] [] all = refl
ran_answers (s ∷ seats) (r ∷ runs) all = λ i. all.0.1 i ∷ ran_answers seats runs all.1 i
ran_answers [] (r ∷ runs) all = absurd all
ran_answers (s ∷ seats) [] all = absurd all

-- the program at a place
seat_of : (seats : List Seat) (i : ℕ) (x : Place) → slice_get (places_in seats) i ≡ Some x → (s : Seat) × (slice_get seats i ≡ Some s) × (place_of s.store.run ≡ x)
seat_of [] i x at = absurd cc
seat_of (s ∷ seats) zero x at = (s, refl, same_Some (place_of s.store.run) x at)
seat_of (s ∷ seats) (suc i) x at = seat_of seats i x at

module _ (most slice turns : ℕ) (pick : ℕ → ℕ → ℕ → Type 0) (embedder : Embedder) (seats : List Seat) (tally : Tally) (begun now : Devices)
    (played : IsPlayed (sets_in seats) most slice turns pick embedder seats tally begun now) where
  abbrev used : Bool
  used = nat_eq (length tally.picks.items) turns

  used_or_done : (s : Seat) (i : ℕ) → slice_get seats i ≡ Some s → (used ≡ true) ⊎ IsDone most s
  used_or_done s i at = by played.1
    where
      by : (length tally.picks.items ≡ turns) ⊎ AllDone most seats → (used ≡ true) ⊎ IsDone most s
      by (inl all) = inl (grind (arith, nat_tests, all))
      by (inr done) = inr (all_at (IsDone most) seats i s done at)

  pub told : (r : BoardRan) → r.picks ≡ tally.picks.items → AllZip IsRan seats r.runs → IsBoardRun set_course (sets_in seats) most slice turns pick embedder r begun now
  told r same all =
      board_ran set_course (sets_in seats) most slice turns pick embedder tally.picks.items (places_in seats) begun now played.0.played r same
      (sym (zip_length IsRan seats r.runs all) ∙ sym (length-map seats (λ (s : Seat). s.store.linked)))
      (ran_answers seats r.runs all) each
    where
      one : (s : Seat) (i : ℕ) (ran : Ran) → slice_get seats i ≡ Some s → slice_get r.runs i ≡ Some ran → IsRanAs used (set_course s.store.linked) most (place_of s.store.run) ran
      one s i ran at ran_at =
          let is = zip_at IsRan seats r.runs i s ran all at ran_at in
          let ends : EndsBy true (set_course s.store.linked) most (place_of s.store.run) ran.end =
          subst (λ n. EndsBy true (set_course s.store.linked) n (place_of s.store.run) ran.end) (all_at (λ (s : Seat). s.most ≡ most) seats i s played.0.limits at) is.3
          in
          let seated = all_at (λ (t : Seat). IsSeated most t.store.run) seats i s played.0.each at in
          let free = all_at IsFreeSeat seats i s played.0.free at in
          record { steps = is.0; answers = is.1; made = record { few = seated.few; real = is.2; free = free }; ends = ends_used used (set_course s.store.linked) most (place_of s.store.run) ran.end (used_or_done s i at) ends }

      each : (i : ℕ) (L : LinkedSet) (x : Place) (ran : Ran) → slice_get (sets_in seats) i ≡ Some L → slice_get (places_in seats) i ≡ Some x → slice_get r.runs i ≡ Some ran → IsRanAs used (set_course L) most x ran
      each i L x ran L_at x_at ran_at =
          let s = seat_of seats i x x_at in
          let mine : s.0.store.linked ≡ L = same_Some s.0.store.linked L (sym (set_there seats i s.0 s.1) ∙ L_at) in
          subst (λ (M : LinkedSet). IsRanAs used (set_course M) most x ran) mine (subst (λ y. IsRanAs used (set_course s.0.store.linked) most y ran) s.2 (one s.0 i ran s.1 ran_at))
