use Rattle.std.proofs.Common.{◌≡◌, ◌<◌, ◌≤◌, ℕ, ◌∙◌, ap, List, length, get_or, map, refl, arith}
use Rattle.std.specs.Prelude.{Some, slice_get}
use Rattle.std.proofs.lemmas.Option.{slice_get_read}
use Rattle.wasm_form.specs.declared.module.Elem.{Elem}
use Rattle.spec_safety.specs.spec_validation.Faults.{elem_fits}
use Rattle.spec_safety.proofs.of_spec_validation.Parts.{parts_fit}
use Rattle.spec_safety.specs.spec_execution.Instances.{ModuleParts, constant_offset}
use Rattle.spec_safety.specs.spec_execution.Segments.{elem_effects}
use Rattle.wasm_instance.proofs.Lists.{all_at}
use Rattle.wasm_instance.proofs.AppliedSegments.{left_next, left_failed, none_left}
use Rattle.wasm_instance.proofs.applying.apply_elems.Goals as goal

pub apply_elem-requires-clause-fits : goal.apply_elem-requires-clause-fits
apply_elem-requires-clause-fits c =
    let m = c.args.m.now in
    let segment = c.index-segments-e.result in
    let is : segment ≡ get_or m.elems c.loop-e.e segment = c.index-segments-e.is ∙ ap (λ (xs : List Elem). get_or xs c.loop-e.e segment) c.loop-e.invariant.segments in
    let inside : c.loop-e.e < length m.elems = grind arith in
    all_at (elem_fits m) m.elems c.loop-e.e segment inside is (parts_fit m c.requires.alone.valid).elems

-- the segment of a number
found : (elems segments : List Elem) (e : ℕ) (segment : Elem) → segments ≡ elems → e < length elems → segment ≡ get_or segments e segment → slice_get elems e ≡ Some segment
found elems segments e segment same inside is = slice_get_read elems (length elems) e segment refl inside (is ∙ ap (λ (xs : List Elem). get_or xs e segment) same)

pub returns-in_err-apply_elem-clause-applied : goal.returns-in_err-apply_elem-clause-applied
returns-in_err-apply_elem-clause-applied c = λ globals datas memory.
    let m = c.args.m.now in
    let inside : c.loop-e.e < length m.elems = grind arith in
    let first : ModuleParts = record { globals = globals; tables = c.args.tables.now; elems = map (λ v. v.items) c.args.elems.now; datas = datas } in
    let before : ModuleParts = record { globals = globals; tables = c.loop-e.tables; elems = map (λ v. v.items) c.loop-e.elems; datas = datas } in
    let after : ModuleParts = record { globals = globals; tables = c.apply_elem.new.tables; elems = map (λ v. v.items) c.apply_elem.new.elems; datas = datas } in
    left_failed m (elem_effects (constant_offset m)) m.elems first memory c.loop-e.e c.index-segments-e.result before after memory memory (c.loop-e.invariant.left globals datas memory)
    (found m.elems c.items-segments.result.now c.loop-e.e c.index-segments-e.result c.loop-e.invariant.segments inside c.index-segments-e.is)
    c.from_residual.result c.in_err-apply_elem.field-0.0 c.from_residual.ensures.1 (c.in_err-apply_elem.ensures.applied globals datas memory)

pub loop-e-preserved : goal.loop-e-preserved
loop-e-preserved c =
    let m = c.args.m.now in
    let inside : c.loop-e.e < length m.elems = grind arith in
    record {
      left = λ globals datas memory.
          let first : ModuleParts = record { globals = globals; tables = c.args.tables.now; elems = map (λ v. v.items) c.args.elems.now; datas = datas } in
          let before : ModuleParts = record { globals = globals; tables = c.loop-e.tables; elems = map (λ v. v.items) c.loop-e.elems; datas = datas } in
          let after : ModuleParts = record { globals = globals; tables = c.apply_elem.new.tables; elems = map (λ v. v.items) c.apply_elem.new.elems; datas = datas } in
          left_next m (elem_effects (constant_offset m)) m.elems first memory c.loop-e.e c.index-segments-e.result before after memory memory (c.loop-e.invariant.left globals datas memory)
          (found m.elems c.items-segments.result.now c.loop-e.e c.index-segments-e.result c.loop-e.invariant.segments inside c.index-segments-e.is) (c.in_ok-apply_elem.ensures.applied globals datas memory);
      segments = c.loop-e.invariant.segments;
      tables = c.in_ok-apply_elem.ensures.tables ∙ c.loop-e.invariant.tables;
      elems = c.in_ok-apply_elem.ensures.elems ∙ c.loop-e.invariant.elems;
    }

pub returns-clause-applied : goal.returns-clause-applied
returns-clause-applied c = λ globals datas memory.
    let m = c.args.m.now in
    let past : length m.elems ≤ c.loop-e.e = grind arith in
    let first : ModuleParts = record { globals = globals; tables = c.args.tables.now; elems = map (λ v. v.items) c.args.elems.now; datas = datas } in
    let before : ModuleParts = record { globals = globals; tables = c.loop-e.tables; elems = map (λ v. v.items) c.loop-e.elems; datas = datas } in
    none_left m (elem_effects (constant_offset m)) m.elems first memory c.loop-e.e before memory past (c.loop-e.invariant.left globals datas memory)
