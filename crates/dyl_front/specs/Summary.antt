-- The summary of a set that was run as loaded and as merged.
-- This profile: docs/FORMATS.md, "The summary".
use Rattle.std.specs.Prelude.{ℕ, List, ◌++◌, length, codes, decimal}
use Rattle.spec_traces.specs.spec_hosts.declared.ran.Ran.{Ran}
use Rattle.spec_linking.specs.LinkedSets.{LinkedSet}
use Rattle.spec_linking.specs.Slots.{linked_plan, table_entries, table_most}
use Rattle.dyl_front.specs.declared.reports.Report.{Report}
use Rattle.spec_traces.specs.dyl_print.Printed.{bytes_word, end_word}
use Rattle.dyl_front.specs.Listing.{line_end, space, range_line}

-- a name, how a run ended, how many answers its host gave, and the bytes that it put to its output
abbrev pub run_line : List ℕ → Ran → List ℕ → List ℕ
run_line name ran output = name ++ space ++ end_word ran.end ++ (space ++ decimal (length ran.answers) ++ space) ++ bytes_word output ++ line_end

abbrev pub modules_line : ℕ → List ℕ
modules_line n = codes "modules " ++ decimal n ++ line_end

-- the number of members, and the initial size of the memory and of the table, each with the most
abbrev pub sizes_lines : ℕ → ℕ → ℕ → ℕ → ℕ → List ℕ
sizes_lines count pages pages_max entries entries_max =
    modules_line count ++ range_line (codes "memory") pages pages_max ++ range_line (codes "table") entries entries_max

abbrev pub set_lines : LinkedSet → List ℕ
set_lines L = sizes_lines (length L.set.members) (linked_plan L).pages (linked_plan L).pages_max (table_entries L) (table_most L)

-- these, and then a line for each of two runs
abbrev pub summary_of : LinkedSet → Report → Report → List ℕ
summary_of L loaded merged = set_lines L ++ run_line (codes "run") loaded.ran loaded.output ++ run_line (codes "exec") merged.ran merged.output
