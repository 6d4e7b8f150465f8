-- What answers the calls of a set.
use Rattle.std.proofs.Common.{◌≡◌, ℕ, List, [], ◌∷◌, Result, Ok, Err, IfOk, ◌∙◌, subst}
use Rattle.spec_hosts.specs.wasm_form.declared.memory.Memory.{Memory}
use Rattle.spec_hosts.specs.spec_runtime.Names.{HostName}
use Rattle.dyl_link.specs.host_table.declared.entry.HostTable.{HostTable}
use Rattle.spec_loading.specs.spec_linking.LinkedSets.{LinkedSet, hosts_of}
use Rattle.host_calls.specs.declared.hosts.Hosts.{Hosts}
use Rattle.host_calls.specs.Bindings.{AreBindings}
use Rattle.slice_exec.specs.Playing.{IsHostsOf}

module _ {X : Type 0} {F : X → Type 0} {g : _} where
  pub bound_so : (name : List ℕ) (table : HostTable X F g) (L : LinkedSet) (texts : List (List ℕ)) (hs : List HostName) (r : Result (Hosts X F g) Memory) → texts ≡ name ∷ [] → hs ≡ hosts_of L
      → IfOk r (λ h. h.wasi ≡ texts) → IfOk r (λ h. h.table.now ≡ table) → IfOk r (λ h. AreBindings table hs h.bindings.items) → IfOk r (λ h. IsHostsOf name table L h)
  bound_so name table L texts hs (Ok h) one same wasi tables bound = (wasi ∙ one, tables, subst (λ hs. AreBindings table hs h.bindings.items) same bound)
  bound_so name table L texts hs (Err why) one same wasi tables bound = tt
