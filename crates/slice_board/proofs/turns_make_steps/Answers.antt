use Rattle.spec_loading.specs.spec_safety.ValueTypes.{IsOfBytes}
use Rattle.spec_boards.proofs.Turning.{is_turn, real_turned}
use Rattle.spec_boards.proofs.Serving.{others_stay}
use Rattle.spec_boards.proofs.Growing.{calls_grow}
use Rattle.dyl_store.specs.Stores.{set_course}
use Rattle.slice_board.proofs.Stuckless.{never_stuck}
use Rattle.slice_board.proofs.turns_make_steps.Goals as goal

pub returns-clause-steps : goal.returns-clause-steps
returns-clause-steps c = λ L most slice p. (
  is_turn (set_course L) most slice p,
  λ may such real. real_turned (set_course L) most IsOfBytes (never_stuck c.linked_sets_never_get_stuck.ensures.never_stuck L may) slice p 0 such real,
)

pub returns-clause-others : goal.returns-clause-others
returns-clause-others c = others_stay set_course

pub returns-clause-first : goal.returns-clause-first
returns-clause-first c = λ L p q further. calls_grow (set_course L) p q further
