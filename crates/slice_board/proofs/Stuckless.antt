-- Linked sets that may run never get stuck.
use Rattle.spec_loading.specs.spec_linking.LinkedSets.{LinkedSet}
use Rattle.spec_loading.specs.spec_safety.ValueTypes.{IsOfBytes}
use Rattle.spec_loading.specs.SoundSets.{SetNeverStuck}
use Rattle.spec_boards.specs.Laws.{NeverStuck}
use Rattle.dyl_store.specs.Stores.{set_course}
use Rattle.slice_board.specs.Laws.{MayRun}

pub never_stuck : SetNeverStuck → (L : LinkedSet) → MayRun L → NeverStuck IsOfBytes (set_course L)
never_stuck law L may = λ p such real moving. law L p.given p.steps may.shape may.links may.pages may.bytes such moving
