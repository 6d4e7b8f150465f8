use Rattle.std.proofs.Common.{◌≡◌, ◌<◌, ◌≤◌, Some, length, refl, sym, subst, ◌∙◌, arith}
use Rattle.std.specs.Prelude.{slice_get, Ok, Err}
use Rattle.std.proofs.lemmas.Option.{slice_get_read}
use Rattle.spec_loading.specs.spec_execution.Segments.{all_performed, data_effects}
use Rattle.spec_loading.specs.spec_linking.LinkedSets.{LinkedSet}
use Rattle.spec_loading.specs.Members.{set_view, set_instances}
use Rattle.dyl_frames.specs.Cores.{Places}
use Rattle.dyl_store.specs.Placements.{data_offset}
use Rattle.dyl_store.proofs.Placed.{mapped_at, left_next, left_failed, none_left}
use Rattle.dyl_store.proofs.world.World.place_datas.Goals as goal

pub place_data-requires-clause-data : goal.place_data-requires-clause-data
place_data-requires-clause-data c =
    let segments = c.args.segments.now in
    let segment = c.index-segments-d.result in
    let inside : c.loop-d.d < length segments = grind arith in
    let here : slice_get segments c.loop-d.d ≡ Some segment = slice_get_read segments (length segments) c.loop-d.d segment refl inside c.index-segments-d.is in
    subst (λ (L : LinkedSet). c.loop-d.d < ((set_instances L).counts c.args.m).datas) (sym c.loop-d.invariant.linked) (omega (arith, inside, c.requires.datas))

pub loop-d-preserved : goal.loop-d-preserved
loop-d-preserved c =
    let segments = c.args.segments.now in
    let segment = c.index-segments-d.result in
    let inside : c.loop-d.d < length segments = grind arith in
    let here : slice_get segments c.loop-d.d ≡ Some segment = slice_get_read segments (length segments) c.loop-d.d segment refl inside c.index-segments-d.is in
    let at : slice_get c.args.ats.now c.loop-d.d ≡ Some c.offset_at-at.result = c.offset_at-at.ensures in
    record {
      linked = c.in_ok-place_data.ensures.linked ∙ c.loop-d.invariant.linked;
      left = λ number are.
          let old = c.args.self.now in
          let now = c.loop-d.self in
          let new = c.place_data.new.self in
          let done = c.in_ok-place_data.ensures.performed number (mapped_at (data_offset number) segments c.args.ats.now c.loop-d.d segment c.offset_at-at.result are here at) in
          left_next (set_view old.linked) c.args.m (data_effects number) segments old.store old.memory c.loop-d.d segment now.store new.store now.memory new.memory (c.loop-d.invariant.left number are) here
          (subst (λ (L : LinkedSet). Places (all_performed (set_view L) c.args.m (data_effects number c.loop-d.d segment) now.store now.memory) (Ok tt) new.store new.memory) c.loop-d.invariant.linked done);
    }

pub returns-in_err-place_data-clause-performed : goal.returns-in_err-place_data-clause-performed
returns-in_err-place_data-clause-performed c = λ number are.
    let segments = c.args.segments.now in
    let segment = c.index-segments-d.result in
    let inside : c.loop-d.d < length segments = grind arith in
    let here : slice_get segments c.loop-d.d ≡ Some segment = slice_get_read segments (length segments) c.loop-d.d segment refl inside c.index-segments-d.is in
    let at : slice_get c.args.ats.now c.loop-d.d ≡ Some c.offset_at-at.result = c.offset_at-at.ensures in
    let old = c.args.self.now in
    let now = c.loop-d.self in
    let new = c.place_data.new.self in
    let why = c.in_err-place_data.field-0.0 in
    let done = c.in_err-place_data.ensures.performed number (mapped_at (data_offset number) segments c.args.ats.now c.loop-d.d segment c.offset_at-at.result are here at) in
    left_failed (set_view old.linked) c.args.m (data_effects number) segments old.store old.memory c.loop-d.d segment now.store new.store now.memory new.memory (c.loop-d.invariant.left number are) here c.from_residual.result why c.from_residual.ensures.1
    (subst (λ (L : LinkedSet). Places (all_performed (set_view L) c.args.m (data_effects number c.loop-d.d segment) now.store now.memory) (Err why) new.store new.memory) c.loop-d.invariant.linked done)

pub returns-clause-performed : goal.returns-clause-performed
returns-clause-performed c = λ number are.
    let past : length c.args.segments.now ≤ c.loop-d.d = grind arith in
    let old = c.args.self.now in
    let now = c.loop-d.self in
    none_left (set_view old.linked) c.args.m (data_effects number) c.args.segments.now old.store old.memory c.loop-d.d now.store now.memory past (c.loop-d.invariant.left number are)
