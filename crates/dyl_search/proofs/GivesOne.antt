-- Files and options give one answer.
use Rattle.spec_reading.specs.Sections.{answer_of}
use Rattle.spec_reading.specs.Laws.{ReadingAnswers}
use Rattle.spec_linking.specs.Laws.{OneRecord, SomeRecord, OneGathered, SomeGathered, ListsTried}
use Rattle.dyl_search.specs.Laws.{GivesOne}
use Rattle.dyl_search.proofs.Only.{one_answer}

pub gives_one : ReadingAnswers → OneRecord → SomeRecord → OneGathered → SomeGathered → ListsTried → GivesOne
gives_one reads one_record some_record one_gathered some_gathered lists files o =
    let one = one_answer reads in
    let a = some_gathered (λ bytes. (answer_of bytes, (reads bytes).0)) some_record files o in (
      a.0,
      record {
        gathered = a.1;
        alone = λ other g. (one_gathered one one_record files o g.tried a.1.tried other a.0 g.gathers a.1.gathers).1;
        tried = lists one one_record files o a.1.tried a.0 a.1.gathers;
      },
    )
