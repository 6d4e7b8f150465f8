-- The faults of a member that come before those of its imports.
-- Serves the contracts of this crate, which follow Links of `spec_linking`.
use Rattle.std.specs.Prelude.{ℕ, length, nat_eq}
use Rattle.spec_loading.specs.spec_binary.Exports.{relocations_name, constructors_name}
use Rattle.spec_loading.specs.spec_linking.declared.fault.LinkFault.TheVariants.{OwnMemory}
use Rattle.spec_loading.specs.spec_linking.Sets.{Member}
use Rattle.spec_loading.specs.spec_linking.Links.{Finding, ◌or_else◌, unless, first_fault, tls_fault, loader_call_fault}

-- a memory of its own, thread-local exports, and functions that the loader calls
abbrev pub before_imports : ℕ → Member → Finding
before_imports m member =
    unless (nat_eq (length member.wasm.memories) 0) (OwnMemory m)
    or_else (first_fault (tls_fault m) member.dylink.exports
    or_else (loader_call_fault m member.wasm relocations_name or_else loader_call_fault m member.wasm constructors_name))
