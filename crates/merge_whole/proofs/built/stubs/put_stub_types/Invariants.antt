use Rattle.std.proofs.Common.{◌≡◌, ◌++◌, drop}
use Rattle.merge_index.specs.Kept.{numbers_in}
use Rattle.merge_whole.specs.Built.{stubs_at}
use Rattle.merge_whole.proofs.built.stubs.put_stub_types.Given as goal

abbrev pub invariant-loop-t : goal.invariant-loop-t
invariant-loop-t l = record {
  put : l.to.items ++ stubs_at l.linked l.m ((numbers_in l.n).ty l.m) l.f (drop l.t-index l.types) ≡ l.fn.to.items ++ stubs_at l.linked l.m ((numbers_in l.n).ty l.m) 0 l.types;
  at : l.f ≡ l.t-index;
}
