use Rattle.std.proofs.Common.{◌<◌, ℕ, List, Some, Option, length, map, sym, ap, subst, ◌∙◌, arith}
use Rattle.std.specs.Prelude.{Ok, Err}
use Rattle.std.proofs.lemmas.List.{length-map}
use Rattle.wasm_form.specs.declared.module.Module.{Module}
use Rattle.wasm_form.specs.declared.runtime.Ref.{Ref}
use Rattle.spec_loading.specs.spec_linking.Slots.{member_number}
use Rattle.spec_loading.specs.spec_execution.Views.{Counts}
use Rattle.spec_loading.specs.spec_execution.Segments.{elem_effects, data_effects}
use Rattle.spec_loading.specs.Members.{set_view}
use Rattle.spec_loading.specs.LoadedSet.{own_functions}
use Rattle.dyl_frames.specs.Cores.{Places}
use Rattle.dyl_store.specs.Placements.{elem_offset, data_offset, slots_put}
use Rattle.dyl_store.proofs.WholePlaced.{elems_placeable, seen_as, err_as, elems_trapped, datas_trapped, all_placed, counts_in}
use Rattle.dyl_store.proofs.world.World.place.Goals as goal
use Rattle.dyl_store.proofs.Addressed.{member_wasm}

pub place_elems-requires-clause-elems : goal.place_elems-requires-clause-elems
place_elems-requires-clause-elems c =
    let L = c.args.linked.now in
    let m = c.args.m in
    let x = c.member.result.now in
    let wasm = x.checked in
    let is = member_wasm L m x c.member.ensures in
    let same = c.module-wasm.ensures.same in
    let counts = counts_in L c.args.self.now.linked m wasm is c.requires.same in
    let all = ap (λ (n : Counts). n.elems) counts in
    let size = ap length c.items.ensures ∙ ap (λ (w : Module). length w.elems) same in
    omega (arith, all, size)

pub place_elems-requires-clause-count : goal.place_elems-requires-clause-count
place_elems-requires-clause-count c =
    let L = c.args.linked.now in
    let m = c.args.m in
    let x = c.member.result.now in
    let wasm = x.checked in
    let is = member_wasm L m x c.member.ensures in
    let same = c.module-wasm.ensures.same in
    let placement = c.requires.placement wasm is in
    ap length (c.deref.ensures.value ∙ placement.elems) ∙ length-map wasm.elems (elem_offset (member_number L m)) ∙ sym (ap length c.items.ensures ∙ ap (λ (w : Module). length w.elems) same)

pub place_elems-requires-clause-placeable : goal.place_elems-requires-clause-placeable
place_elems-requires-clause-placeable c =
    let L = c.args.linked.now in
    let m = c.args.m in
    let x = c.member.result.now in
    let wasm = x.checked in
    let is = member_wasm L m x c.member.ensures in
    let same = c.module-wasm.ensures.same in
    let counts = counts_in L c.args.self.now.linked m wasm is c.requires.same in
    elems_placeable wasm c.module-wasm.ensures.formed c.module-wasm.ensures.valid c.items.result.now _ (c.items.ensures ∙ ap (λ (w : Module). w.elems) same) (ap (λ (n : Counts). n.tables) counts)

pub place_datas-requires-clause-datas : goal.place_datas-requires-clause-datas
place_datas-requires-clause-datas c =
    let L = c.args.linked.now in
    let m = c.args.m in
    let x = c.member.result.now in
    let wasm = x.checked in
    let is = member_wasm L m x c.member.ensures in
    let same = c.module-wasm.ensures.same in
    let counts = counts_in L c.place_elems.new.self.linked m wasm is (ap set_view c.in_ok-place_elems.ensures.linked ∙ c.requires.same) in
    let all = ap (λ (n : Counts). n.datas) counts in
    let size = ap length c.items-2.ensures ∙ ap (λ (w : Module). length w.datas) same in
    omega (arith, all, size)

pub place_datas-requires-clause-count : goal.place_datas-requires-clause-count
place_datas-requires-clause-count c =
    let L = c.args.linked.now in
    let m = c.args.m in
    let x = c.member.result.now in
    let wasm = x.checked in
    let is = member_wasm L m x c.member.ensures in
    let same = c.module-wasm.ensures.same in
    let placement = c.requires.placement wasm is in
    ap length (c.deref-2.ensures.value ∙ placement.datas) ∙ length-map wasm.datas (data_offset (member_number L m)) ∙ sym (ap length c.items-2.ensures ∙ ap (λ (w : Module). length w.datas) same)

pub write_slots-requires : goal.write_slots-requires
write_slots-requires c =
    let L = c.args.linked.now in
    let m = c.args.m in
    let x = c.member.result.now in
    let wasm = x.checked in
    let is = member_wasm L m x c.member.ensures in
    let same = c.module-wasm.ensures.same in
    let placement = c.requires.placement wasm is in
    record { few = subst (λ (xs : List (Option Ref)). length xs < 4294967296) (sym c.deref-3.ensures.value) placement.few }

pub returns-in_err-place_elems-clause-placed : goal.returns-in_err-place_elems-clause-placed
returns-in_err-place_elems-clause-placed c =
    let L = c.args.linked.now in
    let m = c.args.m in
    let x = c.member.result.now in
    let wasm = x.checked in
    let is = member_wasm L m x c.member.ensures in
    let same = c.module-wasm.ensures.same in
    let placement = c.requires.placement wasm is in
    let number = member_number L m in
    let segments = c.items.ensures ∙ ap (λ (w : Module). w.elems) same in
    let view = c.requires.same in
    let old = c.args.self.now in
    let new = c.place_elems.new.self in
    let why = c.in_err-place_elems.field-0.0 in
    let are = c.deref.ensures.value ∙ placement.elems ∙ ap (map (elem_offset number)) (sym segments) in
    err_as _ c.from_residual.result why new.store new.memory c.from_residual.ensures.1
    (elems_trapped L m wasm is old.store new.store old.memory new.memory why
    (seen_as (set_view old.linked) (set_view L) view m (elem_effects number) c.items.result.now wasm.elems segments old.store new.store old.memory new.memory (Err why) (c.in_err-place_elems.ensures.performed number are)))

pub returns-in_err-place_datas-clause-placed : goal.returns-in_err-place_datas-clause-placed
returns-in_err-place_datas-clause-placed c =
    let L = c.args.linked.now in
    let m = c.args.m in
    let x = c.member.result.now in
    let wasm = x.checked in
    let is = member_wasm L m x c.member.ensures in
    let same = c.module-wasm.ensures.same in
    let placement = c.requires.placement wasm is in
    let number = member_number L m in
    let segments = c.items.ensures ∙ ap (λ (w : Module). w.elems) same in
    let parts = c.items-2.ensures ∙ ap (λ (w : Module). w.datas) same in
    let view = c.requires.same in
    let old = c.args.self.now in
    let mid = c.place_elems.new.self in
    let new = c.place_datas.new.self in
    let why = c.in_err-place_datas.field-0.0 in
    let are = c.deref.ensures.value ∙ placement.elems ∙ ap (map (elem_offset number)) (sym segments) in
    let are2 = c.deref-2.ensures.value ∙ placement.datas ∙ ap (map (data_offset number)) (sym parts) in
    let first = seen_as (set_view old.linked) (set_view L) view m (elem_effects number) c.items.result.now wasm.elems segments old.store mid.store old.memory mid.memory (Ok tt) (c.in_ok-place_elems.ensures.performed number are) in
    let second = seen_as (set_view mid.linked) (set_view L) (ap set_view c.in_ok-place_elems.ensures.linked ∙ view) m (data_effects number) c.items-2.result.now wasm.datas parts mid.store new.store mid.memory new.memory (Err why) (c.in_err-place_datas.ensures.performed number are2) in
    err_as _ c.from_residual-in_err-place_datas.result why new.store new.memory c.from_residual-in_err-place_datas.ensures.1
    (datas_trapped L m wasm is old.store mid.store old.memory mid.memory new.store new.memory first why second)

pub returns-clause-placed : goal.returns-clause-placed
returns-clause-placed c =
    let L = c.args.linked.now in
    let m = c.args.m in
    let x = c.member.result.now in
    let wasm = x.checked in
    let is = member_wasm L m x c.member.ensures in
    let same = c.module-wasm.ensures.same in
    let placement = c.requires.placement wasm is in
    let number = member_number L m in
    let segments = c.items.ensures ∙ ap (λ (w : Module). w.elems) same in
    let parts = c.items-2.ensures ∙ ap (λ (w : Module). w.datas) same in
    let view = c.requires.same in
    let old = c.args.self.now in
    let mid = c.place_elems.new.self in
    let new = c.place_datas.new.self in
    let last = c.write_slots.new.self in
    let are = c.deref.ensures.value ∙ placement.elems ∙ ap (map (elem_offset number)) (sym segments) in
    let are2 = c.deref-2.ensures.value ∙ placement.datas ∙ ap (map (data_offset number)) (sym parts) in
    let first = seen_as (set_view old.linked) (set_view L) view m (elem_effects number) c.items.result.now wasm.elems segments old.store mid.store old.memory mid.memory (Ok tt) (c.in_ok-place_elems.ensures.performed number are) in
    let second = seen_as (set_view mid.linked) (set_view L) (ap set_view c.in_ok-place_elems.ensures.linked ∙ view) m (data_effects number) c.items-2.result.now wasm.datas parts mid.store new.store mid.memory new.memory (Ok tt) (c.in_ok-place_datas.ensures.performed number are2) in
    let at = c.first_slot.ensures in
    let slots = subst (λ (n : ℕ). Places (slots_put new n (map Some (own_functions L m))) c.write_slots.result last.store last.memory) at
    (subst (λ (xs : List (Option Ref)). Places (slots_put new c.first_slot.result xs) c.write_slots.result last.store last.memory) (c.deref-3.ensures.value ∙ placement.slots) c.write_slots.ensures.written) in
    all_placed L m wasm is old.store mid.store old.memory mid.memory new.store new.memory first c.write_slots.result last.store last.memory second slots
