-- The programs of a board, one after the other.
use Rattle.std.proofs.Common.{◌≡◌, ◌<◌, ◌+◌, ℕ, List, ◌∷◌, length, drop, get_or, ◌∙◌, sym, ap, subst}
use Rattle.std.proofs.lemmas.List.{length-map, drop_more, get_or-map}
use Rattle.slice_board.specs.declared.board.Seat.{Seat}
use Rattle.slice_exec.specs.Playing.{written_by, written_in}

-- a program whose bytes are counted is there
pub seat_within : (seats : List Seat) (written : List ℕ) (i : ℕ) → written ≡ written_in seats → i < length written → i < length seats
seat_within seats written i same lt = subst (λ n. i < n) (ap length same ∙ length-map seats (λ (s : Seat). written_by s.store.run.answers)) lt

module _ {X : Type 0} (xs : List X) (i : ℕ) (x : X) (lt : i < length xs) (ys : List X) (rest : ys ≡ drop i xs) where
  split : ys ≡ get_or xs i x ∷ drop (i + 1) xs
  split = rest ∙ drop_more xs i x lt

  -- the first of the rest, and what is left without it
  pub first_is : x ≡ get_or ys 0 x → x ≡ get_or xs i x
  first_is is = is ∙ ap (λ l. get_or l 0 x) split

  pub rest_more : (zs : List X) → zs ≡ drop 1 ys → zs ≡ drop (i + 1) xs
  rest_more zs less = less ∙ ap (drop 1) split

-- the bytes that are counted of it
pub counted_there : (seats : List Seat) (written : List ℕ) (i : ℕ) (s : Seat) → written ≡ written_in seats → i < length seats → s ≡ get_or seats i s → (d : ℕ) → get_or written i d ≡ written_by s.store.run.answers
counted_there seats written i s same lt is d =
    ap (λ l. get_or l i d) same ∙ get_or-map (λ (s : Seat). written_by s.store.run.answers) seats i s d lt ∙ ap (λ (t : Seat). written_by t.store.run.answers) (sym is)
