use Rattle.dyl_search.proofs.GivesOne.{gives_one}
use Rattle.dyl_search.proofs.laws.files_give_one_answer.Goals as goal

pub returns : goal.returns
returns c =
    gives_one c.reading_answers.ensures c.one_record_answer.ensures c.some_record_answer.ensures c.one_gathered.ensures c.some_gathered.ensures
    c.tried_are_listed.ensures
