-- Each entry keeps that its type has integers alone.
use Rattle.std.proofs.Common.{List, map, IsTrue, get_or}
use Rattle.std.specs.List.{All}
use Rattle.std.proofs.lemmas.List.Elements.{All-map}
use Rattle.spec_runtime.specs.Names.{has_integers}
use Rattle.host_table.specs.Names.{host_name_of}
use Rattle.host_table.specs.declared.entry.Entry.{Entry}
use Rattle.host_table.proofs.entry.HostTable.names.Goals as goal

module _ {X : Type 0} {F : X → Type 0} {g : _} where
  kept : (es : List (Entry X F g)) → All (λ h. IsTrue (has_integers h.ty)) (map (λ e. host_name_of e.host) es)
  kept es = All-map (λ h. IsTrue (has_integers h.ty)) (λ e. host_name_of e.host) es (λ k d lt. (get_or es k d).integers)

pub returns-in_err-declare-clause-integers : goal.returns-in_err-declare-clause-integers
returns-in_err-declare-clause-integers g c = kept c.args.self.now.entries.items

pub returns-clause-integers : goal.returns-clause-integers
returns-clause-integers g c = kept c.args.self.now.entries.items
