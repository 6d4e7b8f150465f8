-- Want of memory stands alone, and not inside another fault.
use Rattle.std.proofs.Common.{◌≡◌, ◌≢◌, ℕ, List, Result, Err, refl}
use Rattle.wasm_form.specs.declared.module.Module.{Module}
use Rattle.spec_reading.specs.spec_binary.declared.fault.DecodeFault.{DecodeFault}
use Rattle.spec_reading.specs.spec_binary.declared.fault.DecodeFault.TheVariants as decode
use Rattle.spec_reading.specs.spec_binary.DecodeAnswers as answers
use Rattle.spec_reading.specs.spec_binary.DecodeAnswers.{DecodeAnswer}
use Rattle.spec_linking.specs.spec_validation.declared.fault.CheckFault.{CheckFault}
use Rattle.spec_linking.specs.spec_validation.declared.fault.CheckFault.TheVariants as check
use Rattle.spec_linking.specs.declared.fault.RecordFault.{RecordFault}
use Rattle.spec_linking.specs.declared.fault.RecordFault.TheVariants as record_faults
use Rattle.spec_linking.specs.declared.fault.SetFault.{SetFault}
use Rattle.spec_linking.specs.declared.fault.SetFault.TheVariants.{Missing, ReadFault, Decode, Record, Check, ModuleCount, SetSize, Memory}
use Rattle.spec_linking.specs.Records as records
use Rattle.spec_linking.specs.Records.{RecordAnswer}
use Rattle.dyl_search.specs.Loaded.{IsLoaded}
use Rattle.dyl_search.specs.Gathers.{IsWhole, IsSearchFault}

pub decoded_whole : (n : ℕ) {bytes : List ℕ} (fault : DecodeFault) → DecodeAnswer bytes (Err fault) → IsWhole (Decode n fault)
decoded_whole n (decode.Malformed section) a = tt
decoded_whole n decode.Counts a = tt
decoded_whole n (decode.TooDeep function) a = tt
decoded_whole n (decode.TooManyLocals function) a = tt
decoded_whole n decode.Memory a = no_answer refl a
  where
    no_answer : {bytes : List ℕ} {r : Result Module DecodeFault} → r ≡ Err decode.Memory → DecodeAnswer bytes r → ⊥
    no_answer e (answers.too_many_locals x y) = cc
    no_answer e (answers.too_deep x y) = cc
    no_answer e (answers.no_header x) = cc
    no_answer e (answers.malformed r x y z w) = cc
    no_answer e (answers.counts x y z) = cc
    no_answer e (answers.spelled x y z) = cc

pub recorded_whole : (n : ℕ) {wasm : Module} (fault : RecordFault) → RecordAnswer wasm (Err fault) → IsWhole (Record n fault)
recorded_whole n record_faults.NoDylink a = tt
recorded_whole n (record_faults.BadDylink count) a = tt
recorded_whole n record_faults.Memory a = no_answer refl a
  where
    no_answer : {wasm : Module} {r : Result records.DylinkRecord RecordFault} → r ≡ Err record_faults.Memory → RecordAnswer wasm r → ⊥
    no_answer e (records.recorded h) = cc
    no_answer e (records.none h) = cc
    no_answer e (records.broken s b) = cc

pub checked_whole : (n : ℕ) (fault : CheckFault) → fault ≢ check.Memory → IsWhole (Check n fault)
checked_whole n (check.UnsupportedOp function opcode) e = tt
checked_whole n (check.UnsupportedType place) e = tt
checked_whole n (check.BadModule field) e = tt
checked_whole n (check.BadBody function) e = tt
checked_whole n check.Memory e = absurd (e refl)

pub loaded_whole : (n : ℕ) (bytes : List ℕ) (fault : SetFault) → IsLoaded n bytes (Err fault) → IsWhole fault
loaded_whole n bytes (Decode k fault) h = decoded_whole k fault h.1
loaded_whole n bytes (Record k fault) h = recorded_whole k fault h.1.is
loaded_whole n bytes (Check k fault) h = checked_whole k fault h.1.is.why.told
loaded_whole n bytes Memory h = tt
loaded_whole n bytes (Missing name) h = absurd h
loaded_whole n bytes (ReadFault at) h = absurd h
loaded_whole n bytes ModuleCount h = absurd h
loaded_whole n bytes SetSize h = absurd h

pub search_whole : (fault : SetFault) → IsSearchFault fault → IsWhole fault
search_whole (Decode k fault) h = absurd h
search_whole (Record k fault) h = absurd h
search_whole (Check k fault) h = absurd h
search_whole Memory h = tt
search_whole (Missing name) h = tt
search_whole (ReadFault at) h = tt
search_whole ModuleCount h = tt
search_whole SetSize h = tt
