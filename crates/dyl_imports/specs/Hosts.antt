-- Host functions, each once.
-- Serves the contracts of this crate, which follow LinkedSets of `spec_linking`.
use Rattle.std.specs.Prelude.{List, [], ◌∷◌, ◌++◌, if◌then◌else◌}
use Rattle.std.specs.List.{list_any}
use Rattle.spec_loading.specs.spec_runtime.Names.{HostName}
use Rattle.spec_loading.specs.spec_linking.LinkedSets.{is_same_name}

-- one host function more, unless its module and name are there
abbrev pub with_host : List HostName → HostName → List HostName
with_host known h = if list_any (is_same_name h) known then known else known ++ h ∷ []

-- with further ones
abbrev pub with_hosts : List HostName → List HostName → List HostName
with_hosts known [] = known
with_hosts known (h ∷ hs) = with_hosts (with_host known h) hs
