use Rattle.std.proofs.Common.{ap, refl, map, length}
use Rattle.std.specs.Vec.{with_items}
use Rattle.spec_safety.specs.spec_execution.OneModule.{segments_performed}
use Rattle.wasm_instance.specs.Kept.{parts_in}
use Rattle.wasm_instance.proofs.OpeningState.{opened_counts, seen_count, whole, whole_count, whole_seen, applies_as, elements_failed, segments_applied}
use Rattle.wasm_instance.proofs.opening.apply.Goals as goal

pub apply_elems-requires-clause-elems : goal.apply_elems-requires-clause-elems
apply_elems-requires-clause-elems c =
    let counts = opened_counts c.args.m.now (parts_in c.args.parts.now) c.requires.parts in
    seen_count (λ v. v.items) c.deref_mut-2.result.now c.args.parts.now.elems.items (length c.args.m.now.elems) c.deref_mut-2.ensures.value counts.elems

pub apply_datas-requires-clause-datas : goal.apply_datas-requires-clause-datas
apply_datas-requires-clause-datas c =
    let counts = opened_counts c.args.m.now (parts_in c.args.parts.now) c.requires.parts in
    seen_count (λ d. d.now) c.deref_mut-3.result.now c.args.parts.now.datas.items (length c.args.m.now.datas) c.deref_mut-3.ensures.value counts.datas

pub returns-in_err-apply_elems-clause-applied : goal.returns-in_err-apply_elems-clause-applied
returns-in_err-apply_elems-clause-applied c =
    let m = c.args.m.now in
    let old = c.args.parts.now in
    let new = c.apply_elems.new in
    let lengths = c.in_err-apply_elems.ensures in
    applies_as (segments_performed m) c.from_residual.result old.memory old.globals.items new.tables (with_items old.tables new.tables).items (map (λ v. v.items) new.elems) (map (λ v. v.items) (with_items old.elems new.elems).items)
    (map (λ d. d.now) old.datas.items) (map (λ d. d.now) old.datas.items) (whole old.tables c.deref_mut.result.now new.tables c.deref_mut.ensures.value lengths.tables)
    (ap (map (λ v. v.items)) (whole old.elems c.deref_mut-2.result.now new.elems c.deref_mut-2.ensures.value lengths.elems)) refl
    (elements_failed m (parts_in old) old.memory c.requires.parts c.requires.memory new.tables (map (λ v. v.items) new.elems)
    c.deref_mut.result.now (map (λ v. v.items) c.deref_mut-2.result.now) c.deref_mut.ensures.value (ap (map (λ v. v.items)) c.deref_mut-2.ensures.value)
    c.from_residual.result c.in_err-apply_elems.field-0.0 c.from_residual.ensures.1 lengths.applied)

pub returns-in_err-apply_elems-clause-counts : goal.returns-in_err-apply_elems-clause-counts
returns-in_err-apply_elems-clause-counts c =
    let m = c.args.m.now in
    let old = c.args.parts.now in
    let counts = opened_counts m (parts_in old) c.requires.parts in
    record {
      globals = counts.globals;
      tables = whole_count old.tables c.deref_mut.result.now c.apply_elems.new.tables (length m.tables) c.deref_mut.ensures.value c.in_err-apply_elems.ensures.tables counts.tables;
      elems = whole_seen (λ v. v.items) old.elems c.deref_mut-2.result.now c.apply_elems.new.elems (length m.elems) c.deref_mut-2.ensures.value c.in_err-apply_elems.ensures.elems counts.elems;
      datas = counts.datas;
    }

pub returns-clause-applied : goal.returns-clause-applied
returns-clause-applied c =
    let m = c.args.m.now in
    let old = c.args.parts.now in
    let new = c.apply_elems.new in
    let lengths = c.in_ok-apply_elems.ensures in
    applies_as (segments_performed m) c.apply_datas.result c.apply_datas.new.memory old.globals.items new.tables (with_items old.tables new.tables).items (map (λ v. v.items) new.elems) (map (λ v. v.items) (with_items old.elems new.elems).items)
    (map (λ d. d.now) c.apply_datas.new.datas) (map (λ d. d.now) (with_items old.datas c.apply_datas.new.datas).items) (whole old.tables c.deref_mut.result.now new.tables c.deref_mut.ensures.value lengths.tables)
    (ap (map (λ v. v.items)) (whole old.elems c.deref_mut-2.result.now new.elems c.deref_mut-2.ensures.value lengths.elems))
    (ap (map (λ d. d.now)) (whole old.datas c.deref_mut-3.result.now c.apply_datas.new.datas c.deref_mut-3.ensures.value c.apply_datas.ensures.datas))
    (segments_applied m (parts_in old) old.memory c.requires.parts c.requires.memory new.tables (map (λ v. v.items) new.elems)
    c.deref_mut.result.now (map (λ v. v.items) c.deref_mut-2.result.now) c.deref_mut.ensures.value (ap (map (λ v. v.items)) c.deref_mut-2.ensures.value)
    c.apply_datas.new.memory (map (λ d. d.now) c.apply_datas.new.datas) lengths.applied
    c.apply_datas.result (map (λ d. d.now) c.deref_mut-3.result.now) (ap (map (λ d. d.now)) c.deref_mut-3.ensures.value) c.apply_datas.ensures.applied)

pub returns-clause-counts : goal.returns-clause-counts
returns-clause-counts c =
    let m = c.args.m.now in
    let old = c.args.parts.now in
    let counts = opened_counts m (parts_in old) c.requires.parts in
    record {
      globals = counts.globals;
      tables = whole_count old.tables c.deref_mut.result.now c.apply_elems.new.tables (length m.tables) c.deref_mut.ensures.value c.in_ok-apply_elems.ensures.tables counts.tables;
      elems = whole_seen (λ v. v.items) old.elems c.deref_mut-2.result.now c.apply_elems.new.elems (length m.elems) c.deref_mut-2.ensures.value c.in_ok-apply_elems.ensures.elems counts.elems;
      datas = whole_seen (λ d. d.now) old.datas c.deref_mut-3.result.now c.apply_datas.new.datas (length m.datas) c.deref_mut-3.ensures.value c.apply_datas.ensures.datas counts.datas;
    }
