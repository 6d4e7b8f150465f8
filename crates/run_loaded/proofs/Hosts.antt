-- The host functions of a run, as the code keeps them.
use Rattle.std.proofs.Common.{◌≡◌, ℕ, ◌<◌, List, length, map, slice_get, Option, Some, sym, ap, ◌∙◌, subst}
use Rattle.std.proofs.lemmas.Option.{slice_get-map, slice_get_within}
use Rattle.std.proofs.lemmas.List.{length-map}
use Rattle.std.specs.Option.{option_map}
use Rattle.spec_hosts.specs.spec_runtime.Names.{HostName}
use Rattle.dyl_link.specs.host_table.Names.{host_name_of}
use Rattle.dyl_link.specs.host_table.declared.host.HostName as code

module _ (host : ℕ → Option HostName) (all : List code.HostName) (same : host ≡ slice_get (map host_name_of all)) (entry : ℕ) where
  there : host entry ≡ slice_get (map host_name_of all) entry
  there = ap (λ (f : ℕ → Option HostName). f entry) same

  -- the host function of an entry
  pub host_of_entry : (h : code.HostName) → slice_get all entry ≡ Some h → host entry ≡ Some (host_name_of h)
  host_of_entry h at = there ∙ slice_get-map host_name_of all entry ∙ ap (option_map host_name_of) at

  -- an entry that has one is one of them
  pub entry_within : (h : HostName) → host entry ≡ Some h → entry < length all
  entry_within h at = subst (λ n. entry < n) (length-map all host_name_of) (slice_get_within (map host_name_of all) entry h (sym there ∙ at))
