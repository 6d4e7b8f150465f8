use Rattle.std.proofs.Common.{◌≡◌, ◌≤◌, map, take}
use Rattle.std.specs.Option.{option_copied}
use Rattle.spec_linking.specs.Paths.{in_directory}
use Rattle.dyl_search.specs.Expanded.{expanded_from}
use Rattle.dyl_search.proofs.Finding.{NoneAt}
use Rattle.dyl_search.proofs.find.find_in.Given as goal

abbrev pub invariant-loop-directory : goal.invariant-loop-directory
invariant-loop-directory g l = record {
  told : (g.F.Files.seen l.files).told ≡ (g.F.Files.seen l.fn.files).told;
  reads : (g.F.Files.seen l.files).read_faults ≡ (g.F.Files.seen l.fn.files).read_faults;
  writes : (g.F.Files.seen l.files).write_faults ≡ (g.F.Files.seen l.fn.files).write_faults;
  absents : (g.F.Files.seen l.fn.files).absents ≤ (g.F.Files.seen l.files).absents;
  none : NoneAt (g.F.Files.seen l.fn.files).told (map (λ d. in_directory (expanded_from (option_copied l.from) d) l.name) (take l.directory-index l.directories)) (g.F.Files.seen l.fn.files).absents (g.F.Files.seen l.files).absents;
}
