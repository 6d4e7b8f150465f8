use Rattle.std.proofs.Common.{◌∙◌, sym, ap}
use Rattle.spec_loading.specs.spec_linking.Slots.{cell_number}
use Rattle.dyl_link.specs.dyl_scope.Scopes.{meaning_of}
use Rattle.dyl_link.specs.dyl_names.declared.def.Def.{Def}
use Rattle.dyl_world.proofs.searching.number_of.Goals as goal

pub returns-in-Function : goal.returns-in-Function
returns-in-Function c = λ name found. c.slot.ensures ∙ ap (λ (d : Def). cell_number c.args.linked.now name (meaning_of d)) (sym c.in-Function.is)
