use Rattle.spec_loading.specs.spec_safety.ValueTypes.{IsOfBytes}
use Rattle.spec_boards.specs.Boards.{opened}
use Rattle.spec_boards.proofs.Serving.{opened_sound, turns_sound}
use Rattle.dyl_store.specs.Stores.{set_course}
use Rattle.slice_board.proofs.Stuckless.{never_stuck}
use Rattle.slice_board.proofs.calls_are_joined.Goals as goal

pub returns : goal.returns
returns c = λ programs slice picks may i seat e.
    let begun = opened_sound set_course IsOfBytes programs
    (λ j x at. record { never = never_stuck c.linked_sets_never_get_stuck.ensures.never_stuck x.0 (may j x at).0; such = (may j x at).1 }) in
    (turns_sound set_course IsOfBytes slice (opened programs) picks begun i seat e).served
