use Rattle.std.proofs.Common.{◌≡◌, ◌++◌, drop}
use Rattle.merge_module.specs.MergedModule.{trap_code}
use Rattle.merge_whole.specs.Built.{stubs_at}
use Rattle.merge_whole.proofs.built.stubs.put_traps.Given as goal

abbrev pub invariant-loop-type : goal.invariant-loop-type
invariant-loop-type l = record {
  put : l.to.items ++ stubs_at l.linked l.m (λ t. trap_code) l.f (drop l._type-index l.types) ≡ l.fn.to.items ++ stubs_at l.linked l.m (λ t. trap_code) 0 l.types;
  at : l.f ≡ l._type-index;
}
