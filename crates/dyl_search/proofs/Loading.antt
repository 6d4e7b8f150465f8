-- What bytes come to.
use Rattle.std.proofs.Common.{ℕ, Ok, Err}
use Rattle.wasm_form.specs.declared.module.Module.{Module}
use Rattle.spec_linking.specs.Records.{DylinkRecord, HasRecord, RecordAnswer, recorded}
use Rattle.spec_linking.specs.declared.fault.SetFault.{SetFault}
use Rattle.spec_linking.specs.declared.fault.SetFault.TheVariants.{Missing, ReadFault, Decode, Record, Check, ModuleCount, SetSize, Memory}
use Rattle.dyl_search.specs.Loaded.{IsValid, IsTested}

pub is_recorded : {m : Module} {d : DylinkRecord} → RecordAnswer m (Ok d) → HasRecord m d
is_recorded (recorded h) = h

pub not_valid : (n : ℕ) (wasm : Module) (d : DylinkRecord) (fault : SetFault) → RecordAnswer wasm (Ok d) → IsValid n wasm (Err fault) → IsTested n wasm (Err fault)
not_valid n wasm d (Check k fault) r v = (v.0, record { dylink = d; recorded = is_recorded r; why = v.1 })
not_valid n wasm d Memory r v = tt
not_valid n wasm d (Missing name) r v = absurd v
not_valid n wasm d (ReadFault at) r v = absurd v
not_valid n wasm d (Decode k fault) r v = absurd v
not_valid n wasm d (Record k fault) r v = absurd v
not_valid n wasm d ModuleCount r v = absurd v
not_valid n wasm d SetSize r v = absurd v
