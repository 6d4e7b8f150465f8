use Rattle.std.proofs.Common.{arith, ◌∙◌, ◌<◌, ◌≤◌, length, Ok, Err, Some}
use Rattle.std.specs.Option.{option_copied}
use Rattle.spec_linking.specs.Paths.{in_directory}
use Rattle.dyl_search.specs.Expanded.{expanded_from}
use Rattle.dyl_search.proofs.Finding.{at_option, found_at, none_more, none_all}
use Rattle.dyl_search.proofs.find.find_in.Goals as goal

pub returns-in-Err-clause-answer : goal.returns-in-Err-clause-answer
returns-in-Err-clause-answer g c =
    let lt : c.loop-directory.directory-index < length c.args.directories.now = omega arith in
    found_at (λ d. in_directory (expanded_from (option_copied c.args.from) d) c.args.name.now) c.args.directories.now c.loop-directory.directory-index c.directory-item.result c.directory-item.is (g.F.Files.seen c.args.files.now).told c.args.most
    (g.F.Files.seen c.loop-directory.files).told c.as_str.result.now (Err c.in-Err.fault) lt c.loop-directory.invariant.none (λ e. cc) c.loop-directory.invariant.told c.as_str.ensures c.in-Err.ensures.answer

pub returns-in-Ok-Some-clause-answer : goal.returns-in-Ok-Some-clause-answer
returns-in-Ok-Some-clause-answer g c =
    let lt : c.loop-directory.directory-index < length c.args.directories.now = omega arith in
    found_at (λ d. in_directory (expanded_from (option_copied c.args.from) d) c.args.name.now) c.args.directories.now c.loop-directory.directory-index c.directory-item.result c.directory-item.is (g.F.Files.seen c.args.files.now).told c.args.most
    (g.F.Files.seen c.loop-directory.files).told c.as_str.result.now (Ok (Some c.in-Ok-Some.found)) lt c.loop-directory.invariant.none (λ e. cc) c.loop-directory.invariant.told c.as_str.ensures (at_option c.in-Ok-Some.field-0-is c.in-Ok-Some.ensures.answer)

pub loop-directory-preserved : goal.loop-directory-preserved
loop-directory-preserved g c =
    let lt : c.loop-directory.directory-index < length c.args.directories.now = omega arith in
    record {
      told = c.in-Ok-None.ensures.outside.files ∙ c.loop-directory.invariant.told;
      reads = c.in-Ok-None.ensures.outside.reads ∙ c.loop-directory.invariant.reads;
      writes = c.in-Ok-None.ensures.outside.writes ∙ c.loop-directory.invariant.writes;
      absents = omega (arith, c.in-Ok-None.ensures.outside.absents, c.loop-directory.invariant.absents);
      none = none_more (λ d. in_directory (expanded_from (option_copied c.args.from) d) c.args.name.now) c.args.directories.now c.loop-directory.directory-index c.directory-item.result c.directory-item.is (g.F.Files.seen c.args.files.now).told c.args.most
          (g.F.Files.seen c.loop-directory.files).told c.as_str.result.now lt c.loop-directory.invariant.none c.loop-directory.invariant.told c.as_str.ensures (at_option c.in-Ok-None.field-0-is c.in-Ok-None.ensures.answer);
    }

pub returns-clause-answer : goal.returns-clause-answer
returns-clause-answer g c =
    let ge : length c.args.directories.now ≤ c.loop-directory.directory-index = omega arith in
    none_all (λ d. in_directory (expanded_from (option_copied c.args.from) d) c.args.name.now) c.args.directories.now c.loop-directory.directory-index (g.F.Files.seen c.args.files.now).told c.args.most ge c.loop-directory.invariant.none
