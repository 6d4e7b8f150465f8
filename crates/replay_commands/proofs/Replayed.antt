-- A trace that was written is replayed.
use Rattle.std.proofs.Common.{◌≡◌, ◌≤◌, ℕ, List, length, Bool, true, false, cond, bytes_eq, Option, Some, None, Ok, refl, sym, ap, ◌∙◌, subst, inr}
use Rattle.std.specs.Prelude.{IsSomeAnd}
use Rattle.std.specs.FinMap.{get, insert, get-insert}
use Rattle.std.proofs.lemmas.Cmp.{nat_list_cmp_total}
use Rattle.std.proofs.lemmas.Map.Text.{is_eq-slice_cmp}
use Rattle.std.proofs.lemmas.Slice.Eq.{bytes_eq-Decides}
use Rattle.spec_hosts.specs.dyl_outside.FileMap.{FileMap}
use Rattle.spec_hosts.specs.spec_runtime.Names.{HostNames}
use Rattle.spec_loading.specs.spec_linking.Sets.{SetOptions}
use Rattle.spec_loading.specs.spec_linking.Plans.{LinkOptions}
use Rattle.spec_traces.specs.Texts.{IsTextOf}
use Rattle.run_loaded.specs.Courses.{Origin, OfModule, OfSet}
use Rattle.dyl_link.specs.dyl_search.Gathers.{options_of}
use Rattle.dyl_link.specs.Sets as links
use Rattle.dyl_commands.specs.OneFile.{most_run, OfBytes}
use Rattle.dyl_commands.specs.Traced.{IsProgram, ProgramTries, OfTrace}
use Rattle.replay_commands.specs.Laws.{TracesAreReplayed, ReplaysAreDone}
use Rattle.replay_commands.proofs.Gathered.{still_gathered}

-- ---- a file that was written

module _ (files : FileMap) (out bytes : List ℕ) where
  abbrev after : FileMap
  after = insert files out bytes

  at_path : (path : List ℕ) (same : Bool) → bytes_eq path out ≡ same → get after path ≡ cond same (Some bytes) (get files path)
  at_path path same e =
      get-insert nat_list_cmp_total files out bytes path ∙ ap (λ b. cond b (Some bytes) (get files path)) (is_eq-slice_cmp path out ∙ e)

  written_there : get after out ≡ Some bytes
  written_there = at_path out true ((bytes_eq-Decides out out).1 refl)

  -- every other path holds what it held
  others_held : (path : List ℕ) → (path ≡ out → ⊥) → get after path ≡ get files path
  others_held path other = by (bytes_eq path out) refl
    where
      by : (same : Bool) → bytes_eq path out ≡ same → get after path ≡ get files path
      by true e = absurd (other ((bytes_eq-Decides path out).0 e))
      by false e = at_path path false e

-- ---- what the files give

module _ (names : HostNames) (files : FileMap) (o : SetOptions) (link : LinkOptions) (out bytes : List ℕ) where
  -- a program is given still where no file of it is sought at the path that is written
  still_given : (one : Bool) (program : Origin) → (ProgramTries (get files) one o out → ⊥) → IsProgram names (get files) one o link program
      → IsProgram names (get (insert files out bytes)) one o link program
  still_given false (OfSet L) untried is =
      (is.0, is.1, still_gathered (get files) (get (insert files out bytes)) o (λ path tried. others_held files out bytes path (λ same. untried (subst (λ p. ProgramTries (get files) false o p) same tried))) L.set is.2, is.3)
  still_given true (OfModule wasm opening) untried is =
      (subst (λ found. IsSomeAnd found (λ read. (length read ≤ most_run) × OfBytes read (Ok wasm))) (sym (others_held files out bytes o.main (λ same. untried (sym same)))) is.0, is.1)
  still_given false (OfModule wasm opening) untried is = absurd is
  still_given true (OfSet L) untried is = absurd is

pub replayed : TracesAreReplayed
replayed names one o link steps out r files after is untried = inr (is.trace, there, (few, (is.program, gives, is.of_run.traces)))
  where
    there : OfTrace (get after) out (Ok is.trace)
    there = subst (λ (now : FileMap). OfTrace (get now) out (Ok is.trace)) (sym is.written)
        (subst (λ found. IsSomeAnd found (λ text. (length text ≤ most_run) × IsTextOf text is.trace)) (sym (written_there files out is.text)) (is.short, is.of_trace))

    few : is.trace.steps ≤ steps
    few = subst (λ n. n ≤ steps) (sym is.of_run.steps) is.runs.made.few

    gives : IsProgram names (get after) one (options_of o) (links.options_of link) is.program
    gives = subst (λ (now : FileMap). IsProgram names (get now) one (options_of o) (links.options_of link) is.program) (sym is.written)
        (still_given names files (options_of o) (links.options_of link) out is.text one is.program untried is.gives)

pub done : ReplaysAreDone
done names one o link steps out r files after is untried answer old new before now complete unrisen =
    complete (replayed names one o link steps out r files after is untried) unrisen
