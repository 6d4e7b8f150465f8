use Rattle.std.proofs.Common.{◌<◌, ◌^◌, sym, subst, length}
use Rattle.std.specs.Prelude.{IsTrue}
use Rattle.std.specs.List.{list_all}
use Rattle.spec_linking.specs.spec_validation.Faults.{global_fits}
use Rattle.spec_linking.proofs.of_spec_validation.Parts.{parts_fit}
use Rattle.dyl_scope.proofs.maker.tell.Goals as goal

pub definitions_of-requires-clause-fit : goal.definitions_of-requires-clause-fit
definitions_of-requires-clause-fit c =
    subst (λ m. IsTrue (list_all (global_fits m) m.globals)) (sym c.module.ensures.same) (parts_fit c.args.checked.now c.module.ensures.valid).globals

pub definitions_of-requires-clause-few : goal.definitions_of-requires-clause-few
definitions_of-requires-clause-few c = subst (λ m. length m.imports < 2 ^ 32) (sym c.module.ensures.same) c.module.ensures.formed.imports.0
