use Rattle.std.proofs.Common.{◌∙◌, sym, ap}
use Rattle.wasm_form.specs.declared.runtime.Ref.TheVariants.{Own, Loader}
use Rattle.spec_loading.specs.spec_linking.Slots.{cell_number}
use Rattle.dyl_imports.specs.dyl_scope.Scopes.{meaning_of}
use Rattle.dyl_imports.specs.dyl_names.declared.def.Def.{Def}
use Rattle.dyl_slots.proofs.cells.cell_number.Goals as goal

pub returns-in-Loader : goal.returns-in-Loader
returns-in-Loader c = λ L is. c.loader_slot.ensures ∙ is.slots (Loader c.in-Loader.call) ∙ ap (λ (d : Def). cell_number L c.args.name.now (meaning_of d)) (sym c.in-Loader.is)

pub returns-in-Function : goal.returns-in-Function
returns-in-Function c = λ L is. c.own_slot.ensures ∙ is.slots (Own c.in-Function.«module» c.in-Function.func) ∙ ap (λ (d : Def). cell_number L c.args.name.now (meaning_of d)) (sym c.in-Function.is)
