-- What came of running linked sets in turns.
-- Serves the contracts of this crate, which follow BoardRuns of `spec_boards`.
use Rattle.std.specs.Prelude.{ℕ, List, Result, Ok, Err}
use Rattle.spec_hosts.specs.wasm_form.declared.memory.Memory.{Memory}
use Rattle.spec_hosts.specs.Devices.{Devices}
use Rattle.spec_hosts.specs.Hosted.{Embedder}
use Rattle.spec_loading.specs.spec_linking.LinkedSets.{LinkedSet}
use Rattle.spec_boards.specs.declared.ran.BoardRan.{BoardRan}
use Rattle.spec_boards.specs.BoardRuns.{IsBoardRun, IsBoardCut}
use Rattle.dyl_store.specs.Stores.{set_course}

-- They were run in turns, as is told; or memory was wanting, before the first turn or in one, or in answering a call.
abbrev pub ExecutesBoard : List LinkedSet → Embedder → ℕ → ℕ → ℕ → (ℕ → ℕ → ℕ → Type 0) → Result BoardRan Memory → Devices → Devices → Type 0
ExecutesBoard Ls embedder most slice turns pick (Ok r) old new = IsBoardRun set_course Ls most slice turns pick embedder r old new
ExecutesBoard Ls embedder most slice turns pick (Err why) old new = IsBoardCut set_course Ls most slice turns pick embedder old new
