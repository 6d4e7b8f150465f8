use Rattle.std.proofs.Common.{◌≡◌, ◌<◌, ◌≤◌, Some, length, refl, sym, subst, ◌∙◌, arith}
use Rattle.std.specs.Prelude.{slice_get, Ok, Err}
use Rattle.std.proofs.lemmas.Option.{slice_get_read}
use Rattle.spec_loading.proofs.of_spec_binary.Lists.{holds_at}
use Rattle.spec_loading.specs.spec_execution.Segments.{all_performed, elem_effects}
use Rattle.spec_loading.specs.spec_linking.LinkedSets.{LinkedSet}
use Rattle.spec_loading.specs.Members.{set_view, set_instances}
use Rattle.dyl_frames.specs.Cores.{Places}
use Rattle.dyl_store.specs.Placements.{IsPlaceable, elem_offset}
use Rattle.dyl_store.proofs.Placed.{mapped_at, left_next, left_failed, none_left}
use Rattle.dyl_store.proofs.world.World.place_elems.Goals as goal

pub place_elem-requires-clause-elem : goal.place_elem-requires-clause-elem
place_elem-requires-clause-elem c =
    let segments = c.args.segments.now in
    let segment = c.index-segments-e.result in
    let inside : c.loop-e.e < length segments = grind arith in
    let here : slice_get segments c.loop-e.e ≡ Some segment = slice_get_read segments (length segments) c.loop-e.e segment refl inside c.index-segments-e.is in
    subst (λ (L : LinkedSet). c.loop-e.e < ((set_instances L).counts c.args.m).elems) (sym c.loop-e.invariant.linked) (omega (arith, inside, c.requires.elems))

pub place_elem-requires-clause-placeable : goal.place_elem-requires-clause-placeable
place_elem-requires-clause-placeable c =
    let segments = c.args.segments.now in
    let segment = c.index-segments-e.result in
    let inside : c.loop-e.e < length segments = grind arith in
    let here : slice_get segments c.loop-e.e ≡ Some segment = slice_get_read segments (length segments) c.loop-e.e segment refl inside c.index-segments-e.is in
    let n = ((set_instances c.args.self.now.linked).counts c.args.m).tables in
    subst (λ (L : LinkedSet). IsPlaceable ((set_instances L).counts c.args.m).tables segment) (sym c.loop-e.invariant.linked) (holds_at (IsPlaceable n) segments c.loop-e.e segment c.requires.placeable here)

pub loop-e-preserved : goal.loop-e-preserved
loop-e-preserved c =
    let segments = c.args.segments.now in
    let segment = c.index-segments-e.result in
    let inside : c.loop-e.e < length segments = grind arith in
    let here : slice_get segments c.loop-e.e ≡ Some segment = slice_get_read segments (length segments) c.loop-e.e segment refl inside c.index-segments-e.is in
    let at : slice_get c.args.ats.now c.loop-e.e ≡ Some c.offset_at-at.result = c.offset_at-at.ensures in
    record {
      linked = c.in_ok-place_elem.ensures.linked ∙ c.loop-e.invariant.linked;
      left = λ number are.
          let old = c.args.self.now in
          let now = c.loop-e.self in
          let new = c.place_elem.new.self in
          let done = c.in_ok-place_elem.ensures.performed number (mapped_at (elem_offset number) segments c.args.ats.now c.loop-e.e segment c.offset_at-at.result are here at) in
          left_next (set_view old.linked) c.args.m (elem_effects number) segments old.store old.memory c.loop-e.e segment now.store new.store now.memory new.memory (c.loop-e.invariant.left number are) here
          (subst (λ (L : LinkedSet). Places (all_performed (set_view L) c.args.m (elem_effects number c.loop-e.e segment) now.store now.memory) (Ok tt) new.store new.memory) c.loop-e.invariant.linked done);
    }

pub returns-in_err-place_elem-clause-performed : goal.returns-in_err-place_elem-clause-performed
returns-in_err-place_elem-clause-performed c = λ number are.
    let segments = c.args.segments.now in
    let segment = c.index-segments-e.result in
    let inside : c.loop-e.e < length segments = grind arith in
    let here : slice_get segments c.loop-e.e ≡ Some segment = slice_get_read segments (length segments) c.loop-e.e segment refl inside c.index-segments-e.is in
    let at : slice_get c.args.ats.now c.loop-e.e ≡ Some c.offset_at-at.result = c.offset_at-at.ensures in
    let old = c.args.self.now in
    let now = c.loop-e.self in
    let new = c.place_elem.new.self in
    let why = c.in_err-place_elem.field-0.0 in
    let done = c.in_err-place_elem.ensures.performed number (mapped_at (elem_offset number) segments c.args.ats.now c.loop-e.e segment c.offset_at-at.result are here at) in
    left_failed (set_view old.linked) c.args.m (elem_effects number) segments old.store old.memory c.loop-e.e segment now.store new.store now.memory new.memory (c.loop-e.invariant.left number are) here c.from_residual.result why c.from_residual.ensures.1
    (subst (λ (L : LinkedSet). Places (all_performed (set_view L) c.args.m (elem_effects number c.loop-e.e segment) now.store now.memory) (Err why) new.store new.memory) c.loop-e.invariant.linked done)

pub returns-clause-performed : goal.returns-clause-performed
returns-clause-performed c = λ number are.
    let past : length c.args.segments.now ≤ c.loop-e.e = grind arith in
    let old = c.args.self.now in
    let now = c.loop-e.self in
    none_left (set_view old.linked) c.args.m (elem_effects number) c.args.segments.now old.store old.memory c.loop-e.e now.store now.memory past (c.loop-e.invariant.left number are)
