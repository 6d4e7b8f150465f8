-- What is so of the file that a merge wrote.
use Rattle.std.proofs.Common.{◌≡◌, ◌≤◌, ℕ, List, length, Option, Some, None, Result, Ok, Err, cond, bytes_eq, refl, sym, ap, ◌∙◌, subst}
use Rattle.std.specs.Prelude.{IsSomeAnd}
use Rattle.std.specs.FinMap.{get, insert, get-insert}
use Rattle.std.proofs.lemmas.Cmp.{nat_list_cmp_total}
use Rattle.std.proofs.lemmas.Map.Text.{is_eq-slice_cmp}
use Rattle.std.proofs.lemmas.Slice.Eq.{bytes_eq-Decides}
use Rattle.wasm_form.specs.declared.module.Module.{Module}
use Rattle.spec_hosts.specs.dyl_outside.FileMap.{FileMap}
use Rattle.spec_hosts.specs.spec_runtime.Names.{HostNames}
use Rattle.spec_reading.specs.Laws.{ReadingAnswers}
use Rattle.spec_loading.specs.spec_execution.declared.fault.SingleFault.{SingleFault}
use Rattle.spec_loading.specs.spec_execution.OneModule.{ModuleState, module_opening}
use Rattle.spec_loading.specs.spec_linking.declared.fault.SetFault.{SetFault}
use Rattle.spec_loading.specs.spec_linking.declared.fault.SetFault.TheVariants.{ReadFault}
use Rattle.spec_loading.specs.spec_linking.Laws.{OneAnswer}
use Rattle.spec_loading.specs.spec_linking.Sets.{ClosedSet, SetOptions}
use Rattle.spec_loading.specs.spec_linking.Plans.{LinkOptions}
use Rattle.spec_snapshots.specs.declared.fault.SnapFault.{SnapFault}
use Rattle.spec_snapshots.specs.declared.fault.SnapFault.TheVariants as snap
use Rattle.wasm_encode.specs.Laws.{OneShortestModule}
use Rattle.merge_whole.specs.Merges.{AreShortestFor}
use Rattle.merge_module.specs.MergedModule.{merged_module}
use Rattle.dyl_front.specs.declared.outcome.Outcome.{Outcome}
use Rattle.dyl_front.specs.declared.outcome.Outcome.TheVariants.{Done, Ran, Board, Usage, Set, Link, Merge, Single, Gen, Trace, TooLong, Snap, WriteFault, Memory}
use Rattle.dyl_front.specs.declared.order.Order.TheVariants.{Exec}
use Rattle.dyl_commands.specs.Linking.{linked}
use Rattle.dyl_commands.specs.OneFile.{most_run, OfBytes, OfFile, OpensAt, IsRefusedAt}
use Rattle.dyl_commands.specs.Due.{SnapFaultTells, TellsFor}
use Rattle.dyl_commands.specs.Files.{IsMerged}
use Rattle.dyl_commands.specs.Laws.{IsRunOrUnread, MergedFilesOpen, MergedFilesRun, MergesAreOne}
use Rattle.dyl_commands.proofs.OneFile.{one_of_file}

-- the bytes that are written at a path are there
there : (files : FileMap) (path bytes : List ℕ) → get (insert files path bytes) path ≡ Some bytes
there files path bytes =
    get-insert nat_list_cmp_total files path bytes path ∙ ap (λ b. cond b (Some bytes) (get files path)) (is_eq-slice_cmp path path ∙ (bytes_eq-Decides path path).1 refl)

pub opens : MergedFilesOpen
opens names o link out files after m short =
    let at : get after out ≡ Some m.output = ap (λ (f : FileMap). get f out) m.written ∙ there files out m.output in
    let file : OfFile (get after) out (Ok m.merged.wasm) =
    subst (λ (found : Option (List ℕ)). IsSomeAnd found (λ bytes. (length bytes ≤ most_run) × OfBytes bytes (Ok m.merged.wasm))) (sym at) (short, (m.merged.wasm, m.decoded, (refl, m.merged.valid)))
    in
    record { wasm = m.merged.wasm; file = file; opening = m.merged.opening; opens = m.merged.opens }

pub one_answer : ReadingAnswers → OneAnswer
one_answer law bytes one other h k = let all = (law bytes).1 in all one h ∙ sym (all other k)

-- what an answer to running the file at a path that opens tells
module _ (law : OneAnswer) (names : HostNames) (files : List ℕ → Option (List ℕ)) (path : List ℕ) (here : OpensAt names files path) where
  no_fault : (fault : SetFault) → OfFile files path (Err fault) → ⊥
  no_fault fault h = (let same = one_of_file law path files (Ok here.wasm) (Err fault) here.file h in cc)

  not_refused : (fault : SingleFault) → IsRefusedAt names files path fault → ⊥
  not_refused fault h =
      let same = one_of_file law path files (Ok here.wasm) (Ok h.wasm) here.file h.file in
      let modules : here.wasm ≡ h.wasm = cc in
      let opening : module_opening h.wasm names ≡ Ok here.opening = subst (λ (m : Module). module_opening m names ≡ Ok here.opening) modules here.opens in
      let refused = h.refused in
      cc

  module _ (steps : ℕ) (args : List (List ℕ)) where
    no_snapshot : (why : SnapFault) → SnapFaultTells names files (Ok (Exec path steps args)) why → ⊥
    no_snapshot snap.Memory h = h
    no_snapshot why h = h

    of_set : (fault : SetFault) → TellsFor names files (Ok (Exec path steps args)) (Set fault) → IsRunOrUnread path (Set fault)
    of_set (ReadFault at) h = h
    of_set fault h = absurd (no_fault fault h)

    pub runs_or_unread : (answer : Outcome) → TellsFor names files (Ok (Exec path steps args)) answer → IsRunOrUnread path answer
    runs_or_unread (Ran ran) h = tt
    runs_or_unread Memory h = tt
    runs_or_unread (Set fault) h = of_set fault h
    runs_or_unread (Single fault) h = absurd (not_refused fault h)
    runs_or_unread (Snap why) h = absurd (no_snapshot why h)
    runs_or_unread _ h = absurd h

pub run : OneAnswer → MergedFilesRun
run law names o link out files after m short steps args answer tells = runs_or_unread law names (get after) out (opens names o link out files after m short) steps args answer tells

-- one set has one list of shortest bytes
pub one_merge : OneShortestModule → MergesAreOne
one_merge law names link o p out place files after others later one other same =
    law (merged_module (linked names link other.set)) refl one.output other.output (subst (λ (S : ClosedSet). AreShortestFor (linked names link S) one.output) same one.shortest) other.shortest
