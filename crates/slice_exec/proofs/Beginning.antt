-- A board before its first turn.
use Rattle.std.proofs.Common.{◌≡◌, ℕ, List, [], ◌∷◌, length, map, refl, sym, ap, ◌∙◌, subst, arith}
use Rattle.std.specs.List.{All}
use Rattle.std.proofs.lemmas.List.Elements.{All-map}
use Rattle.spec_hosts.specs.Devices.{Devices}
use Rattle.spec_hosts.specs.Hosted.{Embedder}
use Rattle.spec_loading.specs.spec_linking.LinkedSets.{LinkedSet}
use Rattle.spec_boards.proofs.Playing.{none_made, none_played}
use Rattle.dyl_store.specs.Stores.{set_course}
use Rattle.slice_board.specs.declared.board.Seat.{Seat}
use Rattle.slice_exec.specs.declared.tally.Tally.{Tally}
use Rattle.slice_exec.specs.Playing.{new_seat, sets_in, places_in, written_in, IsSeated, IsFreeSeat, IsAtRound, IsFresh}

sets_new : (most : ℕ) (Ls : List LinkedSet) → sets_in (map (new_seat most) Ls) ≡ Ls
sets_new most [] = refl
sets_new most (L ∷ Ls) = ap (λ l. L ∷ l) (sets_new most Ls)

written_new : (most : ℕ) (Ls : List LinkedSet) → map (λ (L : LinkedSet). 0) Ls ≡ written_in (map (new_seat most) Ls)
written_new most [] = refl
written_new most (L ∷ Ls) = ap (λ l. 0 ∷ l) (written_new most Ls)

places_new : (most : ℕ) (Ls : List LinkedSet) → none_made Ls ≡ places_in (map (new_seat most) Ls)
places_new most [] = refl
places_new most (L ∷ Ls) = ap (λ l. record { steps = 0; given = [] } ∷ l) (places_new most Ls)

-- the sets were put onto a board that had none
pub is_fresh : (most : ℕ) (Ls : List LinkedSet) (seats : List Seat) (turn : ℕ) (tally : Tally) → seats ≡ map (new_seat most) Ls → turn ≡ 0 → tally.picks.items ≡ [] → tally.written.items ≡ map (λ (L : LinkedSet). 0) Ls
    → IsFresh most seats turn tally × (sets_in seats ≡ Ls)
is_fresh most Ls seats turn tally same first none nothing =
    let sets : sets_in seats ≡ Ls = ap sets_in same ∙ sets_new most Ls in
    ((same ∙ ap (map (new_seat most)) (sym sets), first, none, nothing ∙ ap (map (λ (L : LinkedSet). 0)) (sym sets)), sets)

pub begins : (most slice turns : ℕ) (pick : ℕ → ℕ → ℕ → Type 0) (embedder : Embedder) (seats : List Seat) (turn : ℕ) (tally : Tally) (begun : Devices)
    → IsFresh most seats turn tally → IsAtRound (sets_in seats) most slice turns pick embedder seats turn tally begun begun
begins most slice turns pick embedder seats turn tally begun fresh =
    let Ls = sets_in seats in
    let same : seats ≡ map (new_seat most) Ls = fresh.0 in
    record {
      limits = subst (All (λ (s : Seat). s.most ≡ most)) (sym same) (All-map (λ (s : Seat). s.most ≡ most) (new_seat most) Ls (λ k d lt. refl));
      each = subst (All (λ (s : Seat). IsSeated most s.store.run)) (sym same) (All-map (λ (s : Seat). IsSeated most s.store.run) (new_seat most) Ls (λ k d lt. record { found = refl; room = refl; few = omega arith }));
      free = subst (All IsFreeSeat) (sym same) (All-map IsFreeSeat (new_seat most) Ls (λ k d lt. λ j under. absurd (omega arith)));
      counted = fresh.1 ∙ ap length (sym fresh.2);
      written = fresh.3 ∙ written_new most Ls ∙ ap written_in (sym same);
      played = rw (fresh.2, sym (places_new most Ls ∙ ap places_in (sym same))) (none_played set_course Ls most slice turns pick embedder begun);
    }
