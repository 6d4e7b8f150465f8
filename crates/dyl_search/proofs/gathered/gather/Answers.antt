use Rattle.dyl_search.specs.Gathers.{options_of}
use Rattle.dyl_search.proofs.Only.{only_told}
use Rattle.dyl_search.proofs.gathered.gather.Goals as goal

pub returns-clause-only : goal.returns-clause-only
returns-clause-only g c =
    only_told c.reading_answers.ensures c.one_record_answer.ensures c.one_gathered.ensures (g.F.Files.seen c.args.files.now).told (options_of c.args.o.now) c.gathered_set.result c.gathered_set.ensures.answer
