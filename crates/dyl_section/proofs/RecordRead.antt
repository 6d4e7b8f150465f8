-- What the record's reader answers, from what the loop over its subsections found.
use Rattle.std.proofs.Common.{◌≡◌, ℕ, ◌+◌, ◌≤◌, List, length, Result, Ok, Err, sym, ap, subst, ◌∙◌, arith}
use Rattle.wasm_form.specs.declared.module.Module.{Module}
use Rattle.spec_reading.specs.spec_binary.Saturated.{saturated}
use Rattle.spec_linking.specs.Records.{DylinkRecord, IsBroken, empty_record, HasSection, RecordAnswer, recorded, broken}
use Rattle.dyl_section.specs.declared.record.Dylink.{Dylink}
use Rattle.spec_linking.specs.declared.fault.RecordFault.{RecordFault}
use Rattle.spec_linking.specs.declared.fault.RecordFault.TheVariants as faults
use Rattle.dyl_section.specs.Recorded.{record_of, Records, Yields}
use Rattle.dyl_section.specs.Reading.{subsections_at, nothing_said, Tells}
use Rattle.dyl_section.proofs.Readings.{read_said, read_breaks, Breaks}
use Rattle.dyl_section.proofs.RecordLaws.{one_answer}

broken_is : {bytes : List ℕ} {count : ℕ} → Breaks empty_record bytes count → IsBroken bytes count
broken_is {bytes} b =
    record {
      begins = record { front = b.begins.front; rest = b.begins.rest; parts = b.begins.parts; said = b.begins.said; spelled = b.begins.spelled };
      more = b.more;
      greatest = λ other k. b.greatest other (record { front = k.front; rest = k.rest; parts = k.parts; said = k.said; spelled = k.spelled });
    }

pub broken_answer : (m : Module) (bytes : List ℕ) (subsection : ℕ) → HasSection m bytes → subsections_at (length bytes) 0 nothing_said bytes ≡ Err subsection
    → RecordAnswer m (Err (faults.BadDylink subsection))
broken_answer m bytes subsection section e =
    let fuel : length bytes ≤ length bytes = omega arith in
    let b = read_breaks (length bytes) 0 nothing_said bytes subsection fuel e in
    let same : 0 + b.0 ≡ b.0 = omega arith in
    subst (λ c. RecordAnswer m (Err (faults.BadDylink c))) (sym (b.1 ∙ ap saturated same)) (broken section (broken_is b.2))

pub record_read : (m : Module) (bytes : List ℕ) (result : Result Dylink RecordFault) → HasSection m bytes
    → ((k : ℕ) → length bytes ≤ k → Tells result (subsections_at k 0 nothing_said bytes)) → Records m result
record_read m bytes (Ok d) section tells =
    let s = read_said (length bytes) 0 nothing_said bytes d (tells (length bytes) (omega arith)) in
    recorded (record { bytes = bytes; section = section; count = s.0; said = s.1 })
record_read m bytes (Err faults.NoDylink) section tells = absurd (tells (length bytes) (omega arith))
record_read m bytes (Err (faults.BadDylink subsection)) section tells = broken_answer m bytes subsection section (tells (length bytes) (omega arith))
record_read m bytes (Err faults.Memory) section tells = tt

pub record_yields : (m : Module) (result : Result Dylink RecordFault) → Records m result → (answer : Result DylinkRecord RecordFault) → RecordAnswer m answer → Yields answer result
record_yields m (Ok d) a answer b = one_answer m answer (Ok (record_of d)) b a
record_yields m (Err faults.NoDylink) a answer b = one_answer m answer (Err faults.NoDylink) b a
record_yields m (Err (faults.BadDylink subsection)) a answer b = one_answer m answer (Err (faults.BadDylink subsection)) b a
record_yields m (Err faults.Memory) a answer b = tt
