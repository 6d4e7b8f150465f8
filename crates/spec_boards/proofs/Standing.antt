-- The programs of a board, and one of them with a further answer to come.
use Rattle.std.proofs.Common.{◌≡◌, ℕ, zero, suc, List, [], ◌∷◌, ◌++◌, length, map, slice_get, slice_set, Some, None, ◌⊎◌, inl, inr, refl, sym, ap, ◌∙◌, subst, arith}
use Rattle.std.proofs.lemmas.Option.{same_Some}
use Rattle.spec_hosts.specs.wasm_form.declared.runtime.Answer.{Answer}
use Rattle.spec_boards.specs.Turns.{Place}
use Rattle.spec_boards.specs.Boards.{Seat, seated}
use Rattle.spec_boards.specs.BoardRuns.{given_to}
use Rattle.spec_boards.specs.Played.{stood}

-- ---- an element of a list that is changed

module _ {X : Type 0} where
  -- what is the same of both stays so of the list
  pub map_set_same : {Y : Type 0} (f : X → Y) (xs : List X) (i : ℕ) (x y : X) → slice_get xs i ≡ Some x → f y ≡ f x → map f (slice_set xs i y) ≡ map f xs
  map_set_same f [] i x y at same = refl
  map_set_same f (z ∷ xs) zero x y at same = let is : z ≡ x = same_Some z x at in ap (λ w. w ∷ map f xs) (same ∙ ap f (sym is))
  map_set_same f (z ∷ xs) (suc i) x y at same = ap (λ l. f z ∷ l) (map_set_same f xs i x y at same)

module _ {P : Type 0} where
  -- ---- programs where they stand

  pub stood_at : (most : ℕ) (ps : List P) (places : List Place) (i : ℕ) (p : P) (place : Place) → slice_get ps i ≡ Some p → slice_get places i ≡ Some place
      → slice_get (stood most ps places) i ≡ Some (record { program = p; most = most; place = place; coming = [] })
  stood_at most [] places i p place there at = absurd cc
  stood_at most (q ∷ ps) [] i p place there at = absurd cc
  stood_at most (q ∷ ps) (x ∷ places) zero p place there at = λ k. Some (record { program = same_Some q p there k; most = most; place = same_Some x place at k; coming = [] })
  stood_at most (q ∷ ps) (x ∷ places) (suc i) p place there at = stood_at most ps places i p place there at

  -- and what stands there is a program at its place
  pub record IsStood (most : ℕ) (ps : List P) (places : List Place) (i : ℕ) (seat : Seat P) : Type 0 where
    pub there : slice_get ps i ≡ Some seat.program
    pub at : slice_get places i ≡ Some seat.place
    pub same : seat ≡ (record { program = seat.program; most = most; place = seat.place; coming = [] })

  pub is_stood : (most : ℕ) (ps : List P) (places : List Place) (i : ℕ) (seat : Seat P) → slice_get (stood most ps places) i ≡ Some seat → IsStood most ps places i seat
  is_stood most [] places i seat at = absurd cc
  is_stood most (q ∷ ps) [] i seat at = absurd cc
  is_stood most (q ∷ ps) (x ∷ places) zero seat at =
      subst (IsStood most (q ∷ ps) (x ∷ places) zero) (same_Some (record { program = q; most = most; place = x; coming = [] }) seat at) (record { there = refl; at = refl; same = refl })
  is_stood most (q ∷ ps) (x ∷ places) (suc i) seat at = let rest = is_stood most ps places i seat at in record { there = rest.there; at = rest.at; same = rest.same }

  pub stood_set : (most : ℕ) (ps : List P) (places : List Place) (i : ℕ) (p : P) (new : Place) → slice_get ps i ≡ Some p
      → slice_set (stood most ps places) i (record { program = p; most = most; place = new; coming = [] }) ≡ stood most ps (slice_set places i new)
  stood_set most [] places i p new there = absurd cc
  stood_set most (q ∷ ps) [] i p new there = refl
  stood_set most (q ∷ ps) (x ∷ places) zero p new there =
      λ k. record { program = same_Some p q (sym there) k; most = most; place = new; coming = [] } ∷ stood most ps places
  stood_set most (q ∷ ps) (x ∷ places) (suc i) p new there = ap (λ l. record { program = q; most = most; place = x; coming = [] } ∷ l) (stood_set most ps places i p new there)

  pub stood_length : (most : ℕ) (ps : List P) (places : List Place) → length places ≡ length ps → length (stood most ps places) ≡ length ps
  stood_length most [] places same = refl
  stood_length most (p ∷ ps) [] same = absurd (omega arith)
  stood_length most (p ∷ ps) (x ∷ places) same = ap suc (stood_length most ps places (omega arith))

  -- ---- a further answer to come

  abbrev pub longer : Answer → Seat P → Seat P
  longer a seat = record seat { coming = seat.coming ++ a ∷ [] }

  abbrev pub extended : ℕ → Answer → List (Seat P) → List (Seat P)
  extended j a [] = []
  extended zero a (seat ∷ seats) = longer a seat ∷ seats
  extended (suc j) a (seat ∷ seats) = seat ∷ extended j a seats

  -- what was there has it, or is another one
  abbrev pub IsExtended : ℕ → Answer → ℕ → Seat P → Seat P → Type 0
  IsExtended j a i old new = ((i ≡ j) × (new ≡ longer a old)) ⊎ (new ≡ old)

  pub get_extended : (seats : List (Seat P)) (j : ℕ) (a : Answer) (i : ℕ) (seat : Seat P) → slice_get seats i ≡ Some seat
      → (new : Seat P) × (slice_get (extended j a seats) i ≡ Some new) × IsExtended j a i seat new
  get_extended [] j a i seat at = absurd cc
  get_extended (x ∷ seats) zero a zero seat at = (longer a x, refl, inl (refl, ap (longer a) (same_Some x seat at)))
  get_extended (x ∷ seats) zero a (suc i) seat at = (seat, at, inr refl)
  get_extended (x ∷ seats) (suc j) a zero seat at = (seat, at, inr refl)
  get_extended (x ∷ seats) (suc j) a (suc i) seat at = let rest = get_extended seats j a i seat at in (rest.0, rest.1, further rest.2)
    where
      further : {new : Seat P} → IsExtended j a i seat new → IsExtended (suc j) a (suc i) seat new
      further (inl both) = inl (ap suc both.0, both.1)
      further (inr same) = inr same

  pub extended_at : (seats : List (Seat P)) (j : ℕ) (a : Answer) (seat : Seat P) → slice_get seats j ≡ Some seat → slice_get (extended j a seats) j ≡ Some (longer a seat)
  extended_at [] j a seat at = absurd cc
  extended_at (x ∷ seats) zero a seat at = ap (λ y. Some (longer a y)) (same_Some x seat at)
  extended_at (x ∷ seats) (suc j) a seat at = extended_at seats j a seat at

  pub extended_other : (seats : List (Seat P)) (j : ℕ) (a : Answer) (i : ℕ) → (i ≡ j → ⊥) → slice_get (extended j a seats) i ≡ slice_get seats i
  extended_other [] j a i other = refl
  extended_other (x ∷ seats) zero a zero other = absurd (other refl)
  extended_other (x ∷ seats) zero a (suc i) other = refl
  extended_other (x ∷ seats) (suc j) a zero other = refl
  extended_other (x ∷ seats) (suc j) a (suc i) other = extended_other seats j a i (λ e. other (ap suc e))

  pub extended_none : (seats : List (Seat P)) (j : ℕ) (a : Answer) → slice_get seats j ≡ None → slice_get (extended j a seats) j ≡ None
  extended_none [] j a none = refl
  extended_none (x ∷ seats) zero a none = absurd cc
  extended_none (x ∷ seats) (suc j) a none = extended_none seats j a none

  -- a change of it, and a change of another one
  pub set_extended : (seats : List (Seat P)) (j : ℕ) (a : Answer) (new : Seat P) → slice_set (extended j a seats) j (longer a new) ≡ extended j a (slice_set seats j new)
  set_extended [] j a new = refl
  set_extended (x ∷ seats) zero a new = refl
  set_extended (x ∷ seats) (suc j) a new = ap (λ l. x ∷ l) (set_extended seats j a new)

  pub set_extended_other : (seats : List (Seat P)) (j : ℕ) (a : Answer) (i : ℕ) (new : Seat P) → (i ≡ j → ⊥) → slice_set (extended j a seats) i new ≡ extended j a (slice_set seats i new)
  set_extended_other [] j a i new other = refl
  set_extended_other (x ∷ seats) zero a zero new other = absurd (other refl)
  set_extended_other (x ∷ seats) zero a (suc i) new other = refl
  set_extended_other (x ∷ seats) (suc j) a zero new other = refl
  set_extended_other (x ∷ seats) (suc j) a (suc i) new other = ap (λ l. x ∷ l) (set_extended_other seats j a i new (λ e. other (ap suc e)))

  pub set_over : (seats : List (Seat P)) (j : ℕ) (a : Answer) (new : Seat P) → slice_set (extended j a seats) j new ≡ slice_set seats j new
  set_over [] j a new = refl
  set_over (x ∷ seats) zero a new = refl
  set_over (x ∷ seats) (suc j) a new = ap (λ l. x ∷ l) (set_over seats j a new)

  -- the programs of which one has a further answer
  pub seated_more : (most : ℕ) (ps : List P) (given : List (List Answer)) (j : ℕ) (a : Answer) (answers : List Answer) → length given ≡ length ps → slice_get given j ≡ Some answers
      → map seated (given_to most ps (slice_set given j (answers ++ a ∷ []))) ≡ extended j a (map seated (given_to most ps given))
  seated_more most [] [] j a answers same at = absurd cc
  seated_more most [] (x ∷ given) j a answers same at = absurd (omega arith)
  seated_more most (p ∷ ps) [] j a answers same at = absurd cc
  seated_more most (p ∷ ps) (x ∷ given) zero a answers same at =
      λ k. seated (p, (most, (same_Some answers x (sym at) k) ++ a ∷ [])) ∷ map seated (given_to most ps given)
  seated_more most (p ∷ ps) (x ∷ given) (suc j) a answers same at = ap (λ l. seated (p, (most, x)) ∷ l) (seated_more most ps given j a answers (omega arith) at)

  -- what was given and what is still to come
  abbrev pub total : Seat P → List Answer
  total seat = seat.place.given ++ seat.coming

  pub seated_total : (most : ℕ) (ps : List P) (given : List (List Answer)) → length given ≡ length ps → map total (map seated (given_to most ps given)) ≡ given
  seated_total most [] [] same = refl
  seated_total most [] (x ∷ given) same = absurd (omega arith)
  seated_total most (p ∷ ps) [] same = absurd (omega arith)
  seated_total most (p ∷ ps) (x ∷ given) same = ap (λ l. x ∷ l) (seated_total most ps given (omega arith))
