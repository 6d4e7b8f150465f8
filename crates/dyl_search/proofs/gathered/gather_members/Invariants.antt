use Rattle.std.proofs.Common.{◌≡◌, ℕ, ◌≤◌, ◌-◌, length}
use Rattle.dyl_search.specs.Gathers.{Stands, Counted}
use Rattle.dyl_search.proofs.gathered.gather_members.Given as goal

abbrev pub invariant-members : goal.invariant-members
invariant-members g l = record {
  stands : Stands (g.F.Files.seen l.fn.files).told l.o l.g;
  counted : (start : ℕ) → Counted (g.F.Files.seen l.fn.files).told l.o l.fn.g start (g.F.Files.seen l.fn.files).absents → Counted (g.F.Files.seen l.fn.files).told l.o l.g start (g.F.Files.seen l.files).absents;
  told : (g.F.Files.seen l.files).told ≡ (g.F.Files.seen l.fn.files).told;
  reads : (g.F.Files.seen l.files).read_faults ≡ (g.F.Files.seen l.fn.files).read_faults;
  writes : (g.F.Files.seen l.files).write_faults ≡ (g.F.Files.seen l.fn.files).write_faults;
  absents : (g.F.Files.seen l.fn.files).absents ≤ (g.F.Files.seen l.files).absents;
}

abbrev pub decreases-members : goal.decreases-members
decreases-members g l = 257 - length l.g.members.items
