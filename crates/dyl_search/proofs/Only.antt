-- Files give one answer.
use Rattle.std.proofs.Common.{Option, Result, Ok, Err, sym, ◌∙◌}
use Rattle.std.specs.Option.{ForSome}
use Rattle.std.specs.FinMap.{get}
use Rattle.dyl_outside.specs.FileMap.{FileMap}
use Rattle.spec_reading.specs.Laws.{ReadingAnswers}
use Rattle.spec_linking.specs.declared.fault.SetFault.{SetFault}
use Rattle.spec_linking.specs.declared.fault.SetFault.TheVariants.{Missing, ReadFault, Decode, Record, Check, ModuleCount, SetSize, Memory}
use Rattle.spec_linking.specs.Sets as sets
use Rattle.spec_linking.specs.Sets.{Files}
use Rattle.spec_linking.specs.Laws.{OneAnswer, OneRecord, OneGathered}
use Rattle.dyl_search.specs.declared.set.ClosedSet.{ClosedSet}
use Rattle.dyl_search.specs.Gathers.{set_of, GathersFrom, OnlyGathers}

pub one_answer : ReadingAnswers → OneAnswer
one_answer law bytes one other a b = (law bytes).1 one a ∙ sym ((law bytes).1 other b)

only_in : ReadingAnswers → OneRecord → OneGathered → (files : Files) (o : sets.SetOptions) (r : Result ClosedSet SetFault) → GathersFrom files o r → OnlyGathers files o r
only_in L R G files o (Ok S) g answer a = (G (one_answer L) R files o a.tried g.tried answer (Ok (set_of S)) a.gathers g.gathers).1
only_in L R G files o (Err (Missing name)) g answer a = (G (one_answer L) R files o a.tried g.tried answer (Err (Missing name)) a.gathers g.gathers).1
only_in L R G files o (Err (ReadFault path)) g answer a = tt
only_in L R G files o (Err (Decode n fault)) g answer a = (G (one_answer L) R files o a.tried g.tried answer (Err (Decode n fault)) a.gathers g.gathers).1
only_in L R G files o (Err (Record n fault)) g answer a = (G (one_answer L) R files o a.tried g.tried answer (Err (Record n fault)) a.gathers g.gathers).1
only_in L R G files o (Err (Check n fault)) g answer a = (G (one_answer L) R files o a.tried g.tried answer (Err (Check n fault)) a.gathers g.gathers).1
only_in L R G files o (Err ModuleCount) g answer a = (G (one_answer L) R files o a.tried g.tried answer (Err ModuleCount) a.gathers g.gathers).1
only_in L R G files o (Err SetSize) g answer a = (G (one_answer L) R files o a.tried g.tried answer (Err SetSize) a.gathers g.gathers).1
only_in L R G files o (Err Memory) g answer a = tt

pub only_told : ReadingAnswers → OneRecord → OneGathered → (told : Option FileMap) (o : sets.SetOptions) (r : Result ClosedSet SetFault) → ForSome told (λ m. GathersFrom (get m) o r)
    → ForSome told (λ m. OnlyGathers (get m) o r)
only_told L R G told o r g m e = only_in L R G (get m) o r (g m e)
