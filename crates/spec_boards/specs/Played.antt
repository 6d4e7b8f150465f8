-- How far a run of a board has come, all of whose answers are recorded.
-- Serves the contracts of this crate, which follow BoardRuns of `spec_boards`.
use Rattle.std.specs.Prelude.{◌≡◌, ℕ, List, [], ◌∷◌, length, map}
use Rattle.spec_hosts.specs.wasm_form.declared.runtime.Answer.{Answer}
use Rattle.spec_hosts.specs.spec_runtime.Courses.{Course}
use Rattle.spec_hosts.specs.Devices.{Devices}
use Rattle.spec_hosts.specs.Hosted.{Embedder}
use Rattle.spec_boards.specs.Turns.{Place}
use Rattle.spec_boards.specs.Boards.{Seat, board}
use Rattle.spec_boards.specs.BoardRuns.{given_to, AreTurns}

-- the programs where they stand, of each at most so many steps
abbrev pub stood : {P : Type 0} → ℕ → List P → List Place → List (Seat P)
stood most [] places = []
stood most (p ∷ ps) [] = []
stood most (p ∷ ps) (place ∷ places) = record { program = p; most = most; place = place; coming = [] } ∷ stood most ps places

-- the answers that each of them was given
abbrev pub given_at : List Place → List (List Answer)
given_at places = map (λ (p : Place). p.given) places

-- The turns of these picks led the programs to these places, and their calls did this to the devices.
pub record Played {P : Type 0} (course : P → Course) (programs : List P) (most slice most_turns : ℕ) (pick : ℕ → ℕ → ℕ → Type 0) (embedder : Embedder) (picks : List ℕ) (places : List Place)
    (old new : Devices) : Type 0 where
  pub count : length places ≡ length programs
  pub turns : AreTurns course (given_to most programs (given_at places)) slice most_turns pick picks embedder old new
  pub stands : (board course (given_to most programs (given_at places)) slice picks).seats ≡ stood most programs places
