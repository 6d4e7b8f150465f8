use Rattle.std.proofs.Common.{◌≡◌, ℕ, length, Some}
use Rattle.std.specs.Prelude.{slice_get}
use Rattle.dyl_store.specs.declared.run_member.Unit.{Unit}
use Rattle.dyl_store.specs.Units.{IsUnit}
use Rattle.dyl_store.proofs.opened_members.units_of.Given as goal

abbrev pub invariant-loop-m : goal.invariant-loop-m
invariant-loop-m l = record {
  as_many : length l.units.items ≡ l.m;
  each : (i : ℕ) (u : Unit) → slice_get l.units.items i ≡ Some u → IsUnit l.linked i u;
}
