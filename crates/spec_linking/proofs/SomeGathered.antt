-- Files give a set, or a first fault.
use Rattle.std.proofs.Common.{◌≡◌, ℕ, zero, suc, ◌+◌, ◌<◌, List, [], ◌∷◌, ◌++◌, length, map, get_or, Option, Some, None, Result, Ok, Err, refl, subst, length-append, arith, inl, inr}
use Rattle.std.proofs.lemmas.Bool.{cases_lt}
use Rattle.std.proofs.lemmas.Option.{slice_get-get_or}
use Rattle.spec_execution.specs.wasm_form.declared.module.Module.{Module}
use Rattle.spec_execution.specs.spec_binary.DecodeAnswers.{DecodeAnswer}
use Rattle.spec_execution.specs.spec_binary.declared.fault.DecodeFault.{DecodeFault}
use Rattle.spec_execution.specs.spec_validation.declared.fault.CheckFault.{CheckFault}
use Rattle.spec_execution.specs.spec_validation.Faults as validation
use Rattle.spec_linking.specs.declared.fault.RecordFault.{RecordFault}
use Rattle.spec_linking.specs.declared.fault.SetFault.{SetFault}
use Rattle.spec_linking.specs.declared.fault.SetFault.TheVariants.{Missing, Decode, Record, Check, ModuleCount, SetSize}
use Rattle.spec_linking.specs.Records.{DylinkRecord, HasRecord, RecordAnswer, recorded, none, broken}
use Rattle.spec_linking.specs.Sets.{Member, ClosedSet, SetOptions, Files, most_bytes, most_members}
use Rattle.spec_linking.specs.Wanted.{Wanted, with_names, number_of, wanted}
use Rattle.spec_linking.specs.Paths.{first_file}
use Rattle.spec_linking.specs.Gathering.{total_size, paths_for, next_wanted, first_in, Seeks, Fetches, IsNext, Reaches, start, next, Fails, too_many, missing, too_long, not_decoded, not_recorded, not_valid, Gathered, gathered, failed, all_tried, gathers, IsGathered, set_of}
use Rattle.spec_linking.specs.Laws.{SomeAnswer, SomeRecord, SomeGathered}

has_record : {m : Module} {said : Result DylinkRecord RecordFault} → RecordAnswer m said → (d : DylinkRecord) → said ≡ Ok d → HasRecord m d
has_record {m} (recorded {d = e} h) d same = let is : e ≡ d = cc in subst (λ (x : DylinkRecord). HasRecord m x) is h
has_record (none h) d same = absurd cc
has_record (broken s b) d same = absurd cc

module _ (A : SomeAnswer) (R : SomeRecord) (files : Files) (o : SetOptions) where
  abbrev Given : Type 0
  Given = (answer : Result ClosedSet SetFault) × IsGathered files o answer

  abbrev Goes : List Member → Type 0
  Goes members = (m : Member) → IsNext (first_in files) o members m → Given

  ended : (members : List Member) (answer : Result ClosedSet SetFault) → Gathered (first_in files) o members answer → Given
  ended members answer g = (answer, record { tried = all_tried files o members answer; gathers = gathers g })

  module _ (members : List Member) (r : Reaches (first_in files) o members) where
    -- no member is found next
    stops : (why : SetFault) → Fails (first_in files) o members why → Given
    stops why f = ended members (Err why) (failed r f)

    -- ---- by what there is to say of the bytes that are found

    module _ (w : Wanted) (path bytes : List ℕ) (f : Fetches (first_in files) o members w path bytes) (goes : Goes members) where
      of_valid : (wasm : Module) (d : DylinkRecord) → DecodeAnswer bytes (Ok wasm) → HasRecord wasm d → (fault : Option CheckFault) → validation.fault wasm ≡ fault → Given
      of_valid wasm d told has None valid =
          let m : Member = record {
            name = w.name;
            path = path;
            size = length bytes;
            dylink = d;
            wasm = wasm;
            needed = map (number_of (with_names (length members) (wanted o members) d.needed)) d.needed;
          } in
          goes m (record { asked = w; bytes = bytes; fetched = f; name = refl; read = record { size = refl; told = told; valid = valid; dylink = has }; needed = refl })
      of_valid wasm d told has (Some why) invalid = stops (Check (length members) why) (not_valid f told has invalid)

      of_record : (wasm : Module) → DecodeAnswer bytes (Ok wasm) → (said : Result DylinkRecord RecordFault) → RecordAnswer wasm said → Given
      of_record wasm told (Ok d) a = of_valid wasm d told (has_record a d refl) (validation.fault wasm) refl
      of_record wasm told (Err why) a = stops (Record (length members) why) (not_recorded f told a)

      of_bytes : (said : Result Module DecodeFault) → DecodeAnswer bytes said → Given
      of_bytes (Ok wasm) a = let s = R wasm in of_record wasm a s.0 s.1
      of_bytes (Err why) a = stops (Decode (length members) why) (not_decoded f a)

    -- ---- by what is found for the name that is searched next

    module _ (w : Wanted) (at : next_wanted o members ≡ Some w) (few : length members < most_members) (goes : Goes members) where
      of_length : (path bytes : List ℕ) → Seeks (first_in files) o members w (Some (path, bytes)) → Given
      of_length path bytes s = elim (cases_lt most_bytes (total_size members + length bytes)) [
        | inl long ↦ stops SetSize (too_long s long)
        | inr short ↦ let a = A bytes in of_bytes w path bytes (record { found = s; few_bytes = short }) goes a.0 a.1
      ]

      of_found : (found : Option (List ℕ × List ℕ)) → first_file files (paths_for o members w) ≡ found → Given
      of_found None first = stops (Missing w.name) (missing {w = w} (record { next = at; few = few; first = first }))
      of_found (Some (path, bytes)) first = of_length path bytes (record { next = at; few = few; first = first })

    nameless : Wanted
    nameless = record { name = []; needed_by = 0 }

    searched : length members < length (wanted o members) → length members < most_members → Goes members → Given
    searched more few goes =
        let w : Wanted = get_or (wanted o members) (length members) nameless in
        let at : next_wanted o members ≡ Some w = slice_get-get_or (wanted o members) (length members) nameless more in
        of_found w at few goes (first_file files (paths_for o members w)) refl

  -- ---- member after member, of which there may be so many more

  from : (n : ℕ) (members : List Member) → Reaches (first_in files) o members → length members + n ≡ most_members → Given
  from zero members r e = elim (cases_lt (length members) (length (wanted o members))) [
    | inl more ↦ stops members r ModuleCount (too_many (omega arith) (omega arith))
    | inr all ↦ ended members (Ok (set_of members)) (gathered r all)
  ]
  from (suc n) members r e = elim (cases_lt (length members) (length (wanted o members))) [
    | inl more ↦ searched members r more (omega arith) (λ m is. from n (members ++ m ∷ []) (next r is) (let longer = length-append members (m ∷ []) in omega arith))
    | inr all ↦ ended members (Ok (set_of members)) (gathered r all)
  ]

pub some_gathered : SomeGathered
some_gathered A R files o = from A R files o most_members [] start refl
