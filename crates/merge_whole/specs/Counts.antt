-- How much there is of a linked set, and the lists of the numbers that generated code names.
-- Serves the contracts of this crate, which follow Listed of `merge_start`.
use Rattle.std.specs.Prelude.{ℕ, ◌+◌, List, [], ◌∷◌, length, map, Option, None, option_map, unwrap_or}
use Rattle.std.specs.List.{range_with_len}
use Rattle.wasm_form.specs.declared.module.Module.{Module}
use Rattle.spec_reading.specs.spec_binary.IndexSpaces.{table_space, function_space}
use Rattle.spec_loading.specs.spec_linking.Sets as sets
use Rattle.spec_loading.specs.spec_linking.LinkedSets.{LinkedSet}
use Rattle.spec_loading.specs.spec_linking.Links.{set_entry}
use Rattle.spec_loading.specs.declared.task.Phase.TheVariants.{Start, Relocate, Construct}
use Rattle.spec_loading.specs.Phases.{phase_function}
use Rattle.dyl_link.specs.dyl_search.declared.set.Member.{Member}
use Rattle.dyl_link.specs.dyl_search.Gathers.{member_of}
use Rattle.merge_match.specs.Renumbering.{Numbers}
use Rattle.spec_loading.specs.Members.{from_members}
use Rattle.merge_start.specs.declared.numbers.StartNumbers.{StartNumbers}
use Rattle.merge_dl.specs.declared.numbers.DlNumbers.{DlNumbers}
use Rattle.merge_index.specs.declared.numbers.LoaderNumbers.{LoaderNumbers}
use Rattle.merge_whole.specs.declared.built.counts.Space.{Space}
use Rattle.merge_whole.specs.declared.built.counts.Space.TheVariants.{Elems, Datas}

abbrev pub members_of : List Member → List sets.Member
members_of xs = map member_of xs

-- the bytes of the files and of the names of members
abbrev pub sizes : List sets.Member → ℕ
sizes [] = 0
sizes (m ∷ ms) = length m.name + m.size + sizes ms

abbrev pub size_in : Space → Module → ℕ
size_in Elems wasm = length wasm.elems
size_in Datas wasm = length wasm.datas

-- how much some members have, beside so much
abbrev pub total : (Module → ℕ) → ℕ → List sets.Member → ℕ
total size start [] = start
total size start (x ∷ xs) = total size (start + size x.wasm) xs

-- the numbers of the tables of member m, imported ones too
abbrev pub tables_by : Numbers → ℕ → Module → List ℕ
tables_by n m wasm = map (n.table m) (range_with_len 0 (length (table_space wasm)))

-- those of its functions
abbrev pub functions_by : Numbers → ℕ → Module → List ℕ
functions_by n m wasm = map (n.named m) (range_with_len 0 (length (function_space wasm)))

-- what the phases of member m call
abbrev pub calls_by : Numbers → ℕ → Module → List (Option ℕ)
calls_by n m wasm =
    None ∷ option_map (n.named m) (phase_function Start m wasm) ∷ option_map (n.named m) (phase_function Relocate m wasm)
    ∷ option_map (n.named m) (phase_function Construct m wasm) ∷ []

-- the numbers that generated code names, by the numbers of the members of a set and those of the first guard and phase
abbrev pub starts_by : LinkedSet → Numbers → ℕ → ℕ → StartNumbers
starts_by L n guard first =
    let members = L.set.members in
    record {
      guard = guard;
      first_function = first;
      calls = from_members (calls_by n) 0 members;
      entry = n.named 0 (unwrap_or (set_entry members) 0);
      elems = range_with_len 0 (total (size_in Elems) (length members) members);
      datas = range_with_len 0 (total (size_in Datas) 0 members);
      tables = from_members (tables_by n) 0 members;
      functions = from_members (functions_by n) 0 members;
    }

-- the numbers that the functions of the loader name, by those of what there is for them and of the first guard
abbrev pub loader_by : LinkedSet → ℕ → LoaderNumbers → DlNumbers
loader_by L guard n =
    let count = length L.set.members in
    record {
      error = guard + count;
      guard = guard;
      first_function = n.length;
      opens = range_with_len n.first_opening count;
      promoted = guard + count + 1;
    }
