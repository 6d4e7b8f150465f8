use Rattle.std.proofs.Common.{◌≡◌, ◌<◌, ◌≤◌, ℕ, ◌∙◌, ap, List, length, get_or, map, refl, arith}
use Rattle.std.specs.Prelude.{Some, slice_get}
use Rattle.std.proofs.lemmas.Option.{slice_get_read}
use Rattle.wasm_form.specs.declared.module.Data.{Data}
use Rattle.spec_safety.specs.spec_validation.Faults.{data_fits}
use Rattle.spec_safety.proofs.of_spec_validation.Parts.{parts_fit}
use Rattle.spec_safety.specs.spec_execution.Instances.{ModuleParts, constant_offset}
use Rattle.spec_safety.specs.spec_execution.Segments.{data_effects}
use Rattle.wasm_instance.proofs.Lists.{all_at}
use Rattle.wasm_instance.proofs.AppliedSegments.{left_next, left_failed, none_left}
use Rattle.wasm_instance.proofs.applying.apply_datas.Goals as goal

pub apply_data-requires-clause-fits : goal.apply_data-requires-clause-fits
apply_data-requires-clause-fits c =
    let m = c.args.m.now in
    let segment = c.index-segments-d.result in
    let is : segment ≡ get_or m.datas c.loop-d.d segment = c.index-segments-d.is ∙ ap (λ (xs : List Data). get_or xs c.loop-d.d segment) c.loop-d.invariant.segments in
    let inside : c.loop-d.d < length m.datas = grind arith in
    all_at (data_fits m) m.datas c.loop-d.d segment inside is (parts_fit m c.requires.alone.valid).datas

-- the segment of a number
found : (datas segments : List Data) (d : ℕ) (segment : Data) → segments ≡ datas → d < length datas → segment ≡ get_or segments d segment → slice_get datas d ≡ Some segment
found datas segments d segment same inside is = slice_get_read datas (length datas) d segment refl inside (is ∙ ap (λ (xs : List Data). get_or xs d segment) same)

pub returns-in_err-apply_data-clause-applied : goal.returns-in_err-apply_data-clause-applied
returns-in_err-apply_data-clause-applied c = λ globals tables elems.
    let m = c.args.m.now in
    let inside : c.loop-d.d < length m.datas = grind arith in
    let first : ModuleParts = record { globals = globals; tables = tables; elems = elems; datas = map (λ d. d.now) c.args.datas.now } in
    let before : ModuleParts = record { globals = globals; tables = tables; elems = elems; datas = map (λ d. d.now) c.loop-d.datas } in
    let after : ModuleParts = record { globals = globals; tables = tables; elems = elems; datas = map (λ d. d.now) c.apply_data.new.datas } in
    left_failed m (data_effects (constant_offset m)) m.datas first c.args.memory.now c.loop-d.d c.index-segments-d.result before after c.loop-d.memory c.apply_data.new.memory (c.loop-d.invariant.left globals tables elems)
    (found m.datas c.items-segments.result.now c.loop-d.d c.index-segments-d.result c.loop-d.invariant.segments inside c.index-segments-d.is)
    c.from_residual.result c.in_err-apply_data.field-0.0 c.from_residual.ensures.1 (c.in_err-apply_data.ensures.applied globals tables elems)

pub loop-d-preserved : goal.loop-d-preserved
loop-d-preserved c =
    let m = c.args.m.now in
    let inside : c.loop-d.d < length m.datas = grind arith in
    record {
      left = λ globals tables elems.
          let first : ModuleParts = record { globals = globals; tables = tables; elems = elems; datas = map (λ d. d.now) c.args.datas.now } in
          let before : ModuleParts = record { globals = globals; tables = tables; elems = elems; datas = map (λ d. d.now) c.loop-d.datas } in
          let after : ModuleParts = record { globals = globals; tables = tables; elems = elems; datas = map (λ d. d.now) c.apply_data.new.datas } in
          left_next m (data_effects (constant_offset m)) m.datas first c.args.memory.now c.loop-d.d c.index-segments-d.result before after c.loop-d.memory c.apply_data.new.memory (c.loop-d.invariant.left globals tables elems)
          (found m.datas c.items-segments.result.now c.loop-d.d c.index-segments-d.result c.loop-d.invariant.segments inside c.index-segments-d.is) (c.in_ok-apply_data.ensures.applied globals tables elems);
      segments = c.loop-d.invariant.segments;
      datas = c.in_ok-apply_data.ensures.datas ∙ c.loop-d.invariant.datas;
    }

pub returns-clause-applied : goal.returns-clause-applied
returns-clause-applied c = λ globals tables elems.
    let m = c.args.m.now in
    let past : length m.datas ≤ c.loop-d.d = grind arith in
    let first : ModuleParts = record { globals = globals; tables = tables; elems = elems; datas = map (λ d. d.now) c.args.datas.now } in
    let before : ModuleParts = record { globals = globals; tables = tables; elems = elems; datas = map (λ d. d.now) c.loop-d.datas } in
    none_left m (data_effects (constant_offset m)) m.datas first c.args.memory.now c.loop-d.d before c.loop-d.memory past (c.loop-d.invariant.left globals tables elems)
