use Rattle.std.proofs.Common.{string_bytes}
use Rattle.dyl_search.proofs.Finding.{finds_there, finds_none, finds_long, finds_fault}
use Rattle.dyl_search.proofs.find.find_at.Goals as goal

pub returns-in-Ok-clause-answer : goal.returns-in-Ok-clause-answer
returns-in-Ok-clause-answer g c =
    let fetched = rw c.as_str.ensures.value at c.in-Ok.ensures in
    finds_there (g.F.Files.seen c.args.files.now).told (string_bytes c.args.path) c.args.most _ _ (record { path = c.of.result; bytes = c.in-Ok.bytes }) c.of.ensures fetched.size fetched.answer fetched.absents

pub returns-in-Err-Absent-clause-answer : goal.returns-in-Err-Absent-clause-answer
returns-in-Err-Absent-clause-answer g c =
    let fetched = rw (c.in-Err-Absent.field-0-is, c.as_str.ensures.value) at c.in-Err-Absent.ensures in
    finds_none (g.F.Files.seen c.args.files.now).told (string_bytes c.args.path) c.args.most _ _ fetched.answer fetched.absents

pub returns-in-Err-TooLong-clause-answer : goal.returns-in-Err-TooLong-clause-answer
returns-in-Err-TooLong-clause-answer g c =
    let fetched = rw (c.in-Err-TooLong.field-0-is, c.as_str.ensures.value) at c.in-Err-TooLong.ensures in
    finds_long (g.F.Files.seen c.args.files.now).told (string_bytes c.args.path) c.args.most _ _ fetched.answer fetched.absents

pub returns-in-Err-Failed-clause-answer : goal.returns-in-Err-Failed-clause-answer
returns-in-Err-Failed-clause-answer g c =
    let fetched = rw c.in-Err-Failed.field-0-is at c.in-Err-Failed.ensures in
    finds_fault (g.F.Files.seen c.args.files.now).told (string_bytes c.args.path) c.args.most _ _ c.of-in-Err-Failed.result c.of-in-Err-Failed.ensures fetched.absents
