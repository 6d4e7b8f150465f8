use Rattle.std.proofs.Common.{◌≡◌, ◌<◌, ◌∙◌, Some, Option, List, length, refl, sym, ap, subst, slice_get, arith}
use Rattle.std.proofs.lemmas.Grind.{common_steps}
use Rattle.std.specs.Option.{option_map}
use Rattle.std.proofs.lemmas.Option.{slice_get_read, slice_get-map}
use Rattle.wasm_form.specs.declared.module.Module.{Module}
use Rattle.spec_loading.specs.spec_binary.Options.{◌>>=◌}
use Rattle.spec_loading.specs.spec_linking.Sets.{Member}
use Rattle.spec_loading.specs.spec_linking.LinkedSets.{wasm_of}
use Rattle.dyl_imports.specs.dyl_search.declared.set.Member as code
use Rattle.dyl_imports.specs.dyl_search.Gathers.{member_of}
use Rattle.dyl_slots.specs.Given.{AllAt}
use Rattle.dyl_slots.specs.Found.{IsCellsOf, initial_values}
use Rattle.dyl_slots.proofs.AllMembers.{all_at_more}
use Rattle.dyl_slots.proofs.cells.cells_of.Goals as goal

pub loop-m-preserved : goal.loop-m-preserved
loop-m-preserved c =
    let m = c.loop-m.m in
    let members = c.args.known.now.imports.now.known.members.now in
    record {
      count = grind (arith, common_steps);
      exact = λ L is same.
          let inside : m < length c.members-members.result.now = omega arith in
          let x = slice_get_read c.members-members.result.now (length c.members-members.result.now) m c.index-members-m.result refl inside c.index-members-m.is in
          let there : slice_get members m ≡ Some c.index-members-m.result = ap (λ ms. slice_get ms m) (sym c.members-members.ensures) ∙ x in
          let at : wasm_of L m ≡ Some c.index-members-m.result.checked =
          ap (λ (ms : List Member). slice_get ms m >>= λ y. Some y.wasm) same
          ∙ ap (λ (o : Option Member). o >>= λ y. Some y.wasm) (slice_get-map member_of members m ∙ ap (option_map member_of) there) in
          let imports = c.items-imports.ensures ∙ ap (λ (w : Module). w.imports) c.module.ensures.same ∙ ap (λ (y : code.Member). y.checked.imports) (sym c.index-members-m.is) in
          let here : IsCellsOf L m c.in_ok-cells.cells = λ wasm q.
          let known : c.index-members-m.result.checked ≡ wasm = (let e = sym at ∙ q in cc) in
          c.in_ok-cells.ensures L is ∙ ap (initial_values L m) (imports ∙ ap (λ (w : Module). w.imports) known) in
          subst (AllAt (IsCellsOf L)) (sym c.in_ok-push.ensures.items) (all_at_more (IsCellsOf L) c.loop-m.all.items c.in_ok-cells.cells m (c.loop-m.invariant.exact L is same) c.loop-m.invariant.count here);
    }
