-- What answers the host functions that a module imports, as the code keeps it.
-- Serves the contracts of this crate, which follow Hosted of `spec_hosts`.
use Rattle.std.specs.Prelude.{◌≡◌, ℕ, List, Some, IsSomeAnd, slice_get, true, false, bytes_eq}
use Rattle.std.specs.Option.{option_map}
use Rattle.spec_hosts.specs.spec_runtime.Names.{HostName}
use Rattle.spec_hosts.specs.Calls.{wasi_name, call_named}
use Rattle.host_table.specs.declared.entry.HostTable.{HostTable}
use Rattle.host_table.specs.Table.{entry_number}
use Rattle.host_wasi.specs.Wants.{meant}
use Rattle.host_calls.specs.declared.binding.Binding.{Binding}
use Rattle.host_calls.specs.declared.binding.Binding.TheVariants.{Wasi, Table}
use Rattle.host_calls.specs.declared.hosts.Hosts.{Hosts}

module _ {X : Type 0} {F : X → Type 0} {g : _} where
  abbrev pub IsBinding : HostTable X F g → HostName → Binding → Type 0
  IsBinding table h (Wasi call) = (bytes_eq h.module_name wasi_name ≡ true) × (option_map meant call ≡ call_named h.name)
  IsBinding table h (Table entry) = (bytes_eq h.module_name wasi_name ≡ false) × (entry ≡ entry_number table h.module_name h.name)

  -- the binding of a host function at its number
  abbrev pub IsBindingAt : HostTable X F g → List Binding → ℕ → HostName → Type 0
  IsBindingAt table bindings entry h = IsSomeAnd (slice_get bindings entry) (IsBinding table h)

  abbrev pub AreBindings : HostTable X F g → List HostName → List Binding → Type 0
  AreBindings table hosts bindings = (entry : ℕ) (h : HostName) → slice_get hosts entry ≡ Some h → IsBindingAt table bindings entry h

  abbrev pub IsBound : Hosts X F g → ℕ → HostName → Type 0
  IsBound hosts entry h = IsBindingAt hosts.table.now hosts.bindings.items entry h
