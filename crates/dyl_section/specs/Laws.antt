-- Laws of records.
-- Part of the statement of laws: docs/LAWS.md, "Laws of the parts".
use Rattle.std.specs.Prelude.{◌≡◌, ℕ, List, ◌∷◌, Result}
use Rattle.wasm_form.specs.declared.module.Custom.{Custom}
use Rattle.wasm_form.specs.declared.module.Module.{Module}
use Rattle.spec_linking.specs.Records.{dylink_name, DylinkRecord, empty_record, Subsections, HasRecord, RecordAnswer}
use Rattle.spec_linking.specs.declared.fault.RecordFault.{RecordFault}

-- there is one thing to say of a module's record
abbrev pub OneRecordAnswer : Type 0
OneRecordAnswer = (m : Module) (one other : Result DylinkRecord RecordFault) → RecordAnswer m one → RecordAnswer m other → one ≡ other

-- there is something to say of it, whatever the module is
abbrev pub SomeRecordAnswer : Type 0
SomeRecordAnswer = (m : Module) → (answer : Result DylinkRecord RecordFault) × RecordAnswer m answer

-- a module whose first custom section is `dylink.0`, stands first, and holds bytes that say something has that record
abbrev pub WrittenIsRecorded : Type 0
WrittenIsRecorded =
    (m : Module) (d : DylinkRecord) (count : ℕ) (bytes : List ℕ) (others : List Custom) → m.customs ≡ record { rank = 0; name = dylink_name; bytes = bytes } ∷ others
    → Subsections empty_record count bytes d → HasRecord m d
