-- What is kept of a set whose imports are looked at, and when it is what there is of a linked set.
-- Serves the contracts of this crate, which follow LinkedSets of `spec_linking`.
use Rattle.std.specs.Prelude.{◌≡◌, List, map}
use Rattle.spec_loading.specs.spec_runtime.Names.{HostNames}
use Rattle.spec_loading.specs.spec_linking.LinkedSets.{LinkedSet, hosts_of}
use Rattle.dyl_search.specs.declared.set.Member.{Member}
use Rattle.dyl_search.specs.Gathers.{member_of}
use Rattle.dyl_scope.specs.Scopes.{Scopes, AreOf}
use Rattle.dyl_imports.specs.Weak.{AreWeakOf, function_counts}
use Rattle.dyl_imports.specs.declared.known.Known.{Known}
use Rattle.dyl_imports.specs.declared.imports.Imports.{Imports}

-- a linked set is one of these members, which define these names, over these host functions
pub record AreOver (L : LinkedSet) (of_members : List Member) (of_names : Scopes) (of_hosts : HostNames) : Type 0 where
  pub members : L.set.members ≡ map member_of of_members
  pub symbols : AreOf L.set of_names
  pub declared : L.names ≡ of_hosts

-- what is known of a set before its host functions are numbered is what there is of a linked one
pub record IsKnownOf (L : LinkedSet) (k : Known) : Type 0 where
  pub over : AreOver L k.members.now k.symbols.now k.declared.now
  pub weak : AreWeakOf L.set.members k.weak.items
  pub counts : k.counts.items ≡ function_counts L.set.members

-- what is kept of the imports of a set is what there is of a linked one
pub record AreImportsOf (L : LinkedSet) (i : Imports) : Type 0 where
  pub known : IsKnownOf L i.known
  pub hosts : i.hosts ≡ hosts_of L
