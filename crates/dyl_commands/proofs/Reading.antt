-- What comes of reading a file, step by step.
use Rattle.std.proofs.Common.{◌≡◌, ℕ, ◌≤◌, List, length, false, Some, Result, Ok, Err, refl, sym, ap, ◌∙◌, subst}
use Rattle.std.specs.Prelude.{IsSomeAnd, IfOk, IfErr, Vec}
use Rattle.std.specs.declared.alloc.Global.{Global}
use Rattle.std.specs.FinMap.{get}
use Rattle.wasm_form.specs.declared.module.Module.{Module}
use Rattle.spec_hosts.specs.dyl_outside.Files.{FilesState, Fetches}
use Rattle.spec_hosts.specs.dyl_outside.declared.fault.FileFault.TheVariants as fetch
use Rattle.spec_reading.specs.spec_binary.declared.fault.DecodeFault.{DecodeFault}
use Rattle.spec_reading.specs.spec_binary.declared.fault.DecodeFault.TheVariants as decode
use Rattle.spec_reading.specs.spec_binary.DecodeAnswers.{DecodeAnswer}
use Rattle.spec_loading.specs.spec_validation.declared.fault.CheckFault.{CheckFault}
use Rattle.spec_loading.specs.spec_validation.declared.fault.CheckFault.TheVariants as check
use Rattle.spec_loading.specs.spec_validation.Faults as validation
use Rattle.spec_loading.specs.spec_linking.declared.fault.SetFault.{SetFault}
use Rattle.spec_loading.specs.spec_linking.declared.fault.SetFault.TheVariants.{Missing, ReadFault, Decode, Check, SetSize, Memory}
use Rattle.spec_loading.specs.spec_linking.Sets.{Files}
use Rattle.wasm_decode.specs.Decoded.{Decodes}
use Rattle.dyl_link.specs.wasm_check.Answers.{IsFirst}
use Rattle.dyl_commands.specs.OneFile.{most_run, OfModule, OfBytes, TellsFile}
use Rattle.dyl_commands.specs.Causes.{FileCause, wants_inside}
use Rattle.dyl_commands.specs.Fetched.{decode_fault, check_fault, OrMemory, IsMissing, IsUnread, IsOfSome, FileReads, FileAbsents, FetchesFile, ReadsFile}
use Rattle.dyl_commands.proofs.Counting.{at_least}

-- no fault of a module carries want of memory
pub decode_inside : (fault : DecodeFault) → wants_inside (decode_fault fault) ≡ false
decode_inside decode.Memory = refl
decode_inside _ = refl

pub check_inside : (fault : CheckFault) → wants_inside (check_fault fault) ≡ false
check_inside check.Memory = refl
check_inside _ = refl

-- ---- a module

-- a fault of it that was found
pub found_fault : (wasm : Module) (fault : CheckFault) → IsFirst fault (validation.fault wasm) → OrMemory (OfModule wasm) (Err (check_fault fault))
found_fault wasm check.Memory first = tt
found_fault wasm fault first = (refl, first (λ is. cc))

-- what is so of a module that was decoded
pub of_decoded : (bytes : List ℕ) (wasm : Module) (r : Result Module SetFault) → DecodeAnswer bytes (Ok wasm) → OrMemory (OfModule wasm) r → OrMemory (OfBytes bytes) r
of_decoded bytes wasm (Err Memory) told h = tt
of_decoded bytes wasm (Err (Decode member fault)) told h = absurd h
of_decoded bytes wasm _ told h = (wasm, told, h)

-- bytes that are no module
pub of_undecoded : (bytes : List ℕ) (fault : DecodeFault) → Decodes bytes (Err fault) → OrMemory (OfBytes bytes) (Err (decode_fault fault))
of_undecoded bytes decode.Memory told = tt
of_undecoded bytes fault told = (refl, told)

-- ---- a file

-- some bytes spell it
pub of_some : (bytes : List ℕ) (said : Result Module SetFault) → length bytes ≤ most_run → OrMemory (OfBytes bytes) said → IfOk said IsOfSome
of_some bytes (Ok wasm) few h = record { bytes = bytes; few = few; said = h }
of_some bytes (Err fault) few h = tt

-- ---- its bytes

-- nothing of files changed
same_files : (old new : FilesState) → new.told ≡ old.told → new.read_faults ≡ old.read_faults → new.write_faults ≡ old.write_faults → new.absents ≡ old.absents → new ≡ old
same_files old new told reads writes absents =
    ap (λ t. record new { told = t }) told ∙ ap (λ n. record new { told = old.told; read_faults = n }) reads
    ∙ ap (λ n. record new { told = old.told; read_faults = old.read_faults; write_faults = n }) writes ∙ ap (λ n. record old { absents = n }) absents

module _ (path : List ℕ) (old new : FilesState) where
  pub fetched : (bytes : Vec ℕ Global) → Fetches path most_run (Ok bytes) old new → FetchesFile path (Ok bytes) old new
  fetched bytes h = record {
    tells = h.answer;
    few = h.size;
    caused = tt;
    files = h.files;
    reads = h.reads;
    writes = h.writes;
    absents = h.absents;
    same = same_files old new h.files h.reads h.writes h.absents;
  }

  pub absent : (fault : SetFault) → IsMissing path fault → Fetches path most_run (Err fetch.Absent) old new → FetchesFile path (Err fault) old new
  absent (Missing name) named h = record { tells = λ files told. (h.answer files told, named); few = tt; caused = (named, h.absents); files = h.files; reads = h.reads; writes = h.writes; absents = h.absents; same = tt }
  absent Memory named h = record { tells = λ files told. tt; few = tt; caused = tt; files = h.files; reads = at_least _ _ h.reads; writes = h.writes; absents = h.absents.later; same = tt }
  absent _ named h = absurd named

  pub unread : (fault : SetFault) → IsUnread path fault → Fetches path most_run (Err fetch.Failed) old new → FetchesFile path (Err fault) old new
  unread (ReadFault at) named h = record { tells = λ files told. named; few = tt; caused = (named, h.reads); files = h.files; reads = h.reads; writes = h.writes; absents = h.absents; same = tt }
  unread Memory named h = record { tells = λ files told. tt; few = tt; caused = tt; files = h.files; reads = h.reads.later; writes = h.writes; absents = at_least _ _ h.absents; same = tt }
  unread _ named h = absurd named

  pub too_long : Fetches path most_run (Err fetch.TooLong) old new → FetchesFile path (Err SetSize) old new
  too_long h = record { tells = h.answer; few = tt; caused = tt; files = h.files; reads = h.reads; absents = h.absents; writes = h.writes; same = tt }

  pub unfetched : Fetches path most_run (Err fetch.Memory) old new → FetchesFile path (Err Memory) old new
  unfetched h = record { tells = λ files told. tt; few = tt; caused = tt; files = h.files; reads = at_least _ _ h.reads; writes = h.writes; absents = at_least _ _ h.absents; same = tt }

  -- ---- its module

  -- what there is to say of the bytes is to be said of the file
  tells_file : (bytes : List ℕ) (said : Result Module SetFault) (files : Files) → files path ≡ Some bytes → length bytes ≤ most_run → OrMemory (OfBytes bytes) said → TellsFile files path said
  tells_file bytes (Err Memory) files found few h = tt
  tells_file bytes (Err (ReadFault at)) files found few h = absurd h.2
  tells_file bytes (Err (Missing name)) files found few h = absurd h.2
  tells_file bytes (Err SetSize) files found few h = absurd h.2
  tells_file bytes said files found few h = subst (λ there. IsSomeAnd there (λ b. (length b ≤ most_run) × OfBytes b said)) (sym found) (few, h)

  -- and has its cause
  file_cause : (bytes : List ℕ) (fault : SetFault) → OrMemory (OfBytes bytes) (Err fault) → FileCause path fault old new
  file_cause bytes Memory h = tt
  file_cause bytes (Decode member fault) h = h.0
  file_cause bytes (Check member fault) h = h.2.0
  file_cause bytes _ h = absurd h.2

  file_caused : (bytes : List ℕ) (said : Result Module SetFault) → OrMemory (OfBytes bytes) said → IfErr said (λ fault. FileCause path fault old new)
  file_caused bytes (Ok wasm) h = tt
  file_caused bytes (Err fault) h = file_cause bytes fault h

  -- it was read, and was there
  file_reads : (bytes : List ℕ) (said : Result Module SetFault) → new.read_faults ≡ old.read_faults → OrMemory (OfBytes bytes) said → FileReads said old.read_faults new.read_faults
  file_reads bytes (Err Memory) same h = at_least old.read_faults new.read_faults same
  file_reads bytes (Err (ReadFault at)) same h = absurd h.2
  file_reads bytes said same h = same

  file_absents : (bytes : List ℕ) (said : Result Module SetFault) → new.absents ≡ old.absents → OrMemory (OfBytes bytes) said → FileAbsents said old.absents new.absents
  file_absents bytes (Err Memory) same h = at_least old.absents new.absents same
  file_absents bytes (Err (Missing name)) same h = absurd h.2
  file_absents bytes said same h = same

  pub fetched_reads : (bytes : Vec ℕ Global) (said : Result Module SetFault) → FetchesFile path (Ok bytes) old new → OrMemory (OfBytes bytes.items) said → IfErr said (λ fault. wants_inside fault ≡ false) → ReadsFile path said old new
  fetched_reads bytes said h told inner = record {
    tells = λ files is. tells_file bytes.items said (get files) (h.tells files is) h.few told;
    spelled = of_some bytes.items said h.few told;
    caused = file_caused bytes.items said told;
    inner = inner;
    files = h.files;
    reads = file_reads bytes.items said h.reads told;
    writes = h.writes;
    absents = file_absents bytes.items said h.absents told;
  }

  pub unfetched_reads : (fault : SetFault) → FetchesFile path (Err fault) old new → ReadsFile path (Err fault) old new
  unfetched_reads Memory h = record { tells = λ files told. tt; spelled = tt; caused = tt; inner = refl; files = h.files; reads = h.reads; writes = h.writes; absents = h.absents }
  unfetched_reads (ReadFault at) h = record { tells = h.tells; spelled = tt; caused = h.caused; inner = refl; files = h.files; reads = h.reads; writes = h.writes; absents = h.absents }
  unfetched_reads (Missing name) h = record { tells = h.tells; spelled = tt; caused = h.caused; inner = refl; files = h.files; reads = h.reads; writes = h.writes; absents = h.absents }
  unfetched_reads SetSize h = record { tells = h.tells; spelled = tt; caused = tt; inner = refl; files = h.files; reads = h.reads; writes = h.writes; absents = h.absents }
  unfetched_reads _ h = absurd h.caused
