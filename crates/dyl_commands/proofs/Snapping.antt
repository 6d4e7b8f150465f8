-- What comes of the snapshot of a set that links.
use Rattle.std.proofs.Common.{◌≡◌, ℕ, List, [], Option, Some, None, Ok, Err, refl, sym, ◌∙◌, subst, inl}
use Rattle.std.specs.Prelude.{IsSomeAnd}
use Rattle.std.specs.FinMap.{get}
use Rattle.spec_hosts.specs.dyl_outside.FileMap.{FileMap}
use Rattle.spec_hosts.specs.dyl_outside.Faults.{Rises}
use Rattle.spec_hosts.specs.dyl_outside.Files.{FilesState}
use Rattle.spec_hosts.specs.spec_runtime.Names.{HostNames}
use Rattle.spec_loading.specs.spec_linking.LinkedSets.{LinkedSet}
use Rattle.spec_snapshots.specs.declared.fault.SnapFault.{SnapFault}
use Rattle.spec_snapshots.specs.declared.fault.SnapFault.TheVariants as snap
use Rattle.spec_snapshots.specs.Causes.{Takes, IsFirst, state_after}
use Rattle.snap_merge.specs.Answers.{Snapped, SnapTells}
use Rattle.dyl_link.specs.dyl_search.declared.set.SetOptions.{SetOptions}
use Rattle.dyl_link.specs.dyl_search.Gathers.{options_of}
use Rattle.dyl_link.specs.declared.options.LinkOptions.{LinkOptions}
use Rattle.dyl_link.specs.Sets as links
use Rattle.dyl_front.specs.declared.order.Order.TheVariants as order
use Rattle.dyl_front.specs.declared.outcome.Outcome.{Outcome}
use Rattle.dyl_front.specs.declared.outcome.Outcome.TheVariants.{Done, Snap, WriteFault, Memory}
use Rattle.dyl_commands.specs.Linking.{linked, LinksAt}
use Rattle.dyl_commands.specs.StartUp.{StartsUp}
use Rattle.dyl_commands.specs.Files.{IsSnapped}
use Rattle.dyl_commands.specs.Served.{Serves, Gets, Starts, HoldsSnapshot, StoresOutput, WritesSnapshot, snap_outcome}

module _ (L : LinkedSet) (most : ℕ) (out : List ℕ) where
  abbrev IsSnapshot : List ℕ → Type 0
  IsSnapshot bytes = (n : ℕ) × IsFirst L most n Takes × Snapped L bytes (state_after L n)

  -- what is stored is the snapshot
  pub stored_snapshot : (bytes : List ℕ) (old new : FilesState) → IsSnapshot bytes → StoresOutput out bytes (Ok tt) old new → WritesSnapshot L most out (Done []) old new
  stored_snapshot bytes old new taken h = (
    (taken.0, taken.1),
    λ files told.
        subst (λ after. IsSomeAnd after (HoldsSnapshot L most out files)) (sym (h files told))
        (record { steps = taken.0; first = taken.1; output = bytes; snapped = taken.2; written = refl }),
  )

  -- it isn't stored
  pub unstored_snapshot : (bytes : List ℕ) (answer : Outcome) (old new : FilesState) → IsSnapshot bytes → StoresOutput out bytes (Err answer) old new → WritesSnapshot L most out answer old new
  unstored_snapshot bytes WriteFault old new taken h = ((taken.0, taken.1), h.0, h.1)
  unstored_snapshot bytes Memory old new taken h = h
  unstored_snapshot bytes _ old new taken h = absurd h

  -- there is none
  pub no_snapshot : (why : SnapFault) (old : FilesState) → SnapTells L most why → WritesSnapshot L most out (snap_outcome why) old old
  no_snapshot snap.Memory old tells = λ files told. told
  no_snapshot why old tells = (tells, refl)

module _ (names : HostNames) (o : SetOptions) (l : LinkOptions) (most : ℕ) (out : List ℕ) (L : LinkedSet) (old mid new : FilesState) (gets : Gets names (options_of o) (links.options_of l) (Ok L) old mid) where
  abbrev links_at : (files : FileMap) → old.told ≡ Some files → LinksAt names (get files) (options_of o) (links.options_of l)
  links_at files told = record { set = gets.got.set; gathered = gets.got.gathered files told; links = gets.got.links }

  starts_up : Starts L most → (files : FileMap) → old.told ≡ Some files → StartsUp names (get files) (options_of o) (links.options_of l) most
  starts_up starts files told =
      let here : Starts (linked names (links.options_of l) gets.got.set) most = subst (λ (M : LinkedSet). Starts M most) gets.got.is starts in
      record { links = links_at files told; steps = here.0; first = here.1 }

  snapped_at : (files : FileMap) → old.told ≡ Some files → (after : Option FileMap) → IsSomeAnd after (HoldsSnapshot L most out files)
      → IsSomeAnd after (IsSnapped names (options_of o) (links.options_of l) most out files)
  snapped_at files told None h = h
  snapped_at files told (Some after) h =
      let held : HoldsSnapshot (linked names (links.options_of l) gets.got.set) most out files after = subst (λ (M : LinkedSet). HoldsSnapshot M most out files after) gets.got.is h in
      record {
        set = gets.got.set;
        gathered = gets.got.gathered files told;
        links = gets.got.links;
        steps = held.steps;
        first = held.first;
        output = held.output;
        snapped = held.snapped;
        written = held.written;
      }

  -- why there is none
  not_snapped : (why : SnapFault) → WritesSnapshot L most out (Snap why) mid new → (before now : ℕ) → Serves names (Ok (order.Snap o l most out)) (Snap why) old new before now
  not_snapped snap.Memory h before now = absurd h
  not_snapped why h before now = record {
    tells = λ files told. record { links = links_at files told; tells = subst (λ (M : LinkedSet). SnapTells M most why) gets.got.is h.0 };
    leaves = λ files told. h.1 ∙ gets.files ∙ told;
    caused = tt;
    inner = refl;
  }

  pub snap_serves : (answer : Outcome) → WritesSnapshot L most out answer mid new → (before now : ℕ) → Serves names (Ok (order.Snap o l most out)) answer old new before now
  snap_serves (Done []) h before now = record {
    tells = starts_up h.0;
    leaves = λ files told. snapped_at files told new.told (h.1 files (gets.files ∙ told));
    caused = refl;
    inner = refl;
  }
  snap_serves WriteFault h before now = record {
    tells = starts_up h.0;
    leaves = λ files told. h.1 files (gets.files ∙ told);
    caused = subst (λ n. Rises n new.write_faults) gets.writes h.2;
    inner = refl;
  }
  snap_serves (Snap why) h before now = not_snapped why h before now
  snap_serves Memory h before now = record {
    tells = λ files told. tt;
    leaves = λ files told. inl (h files (gets.files ∙ told));
    caused = tt;
    inner = refl;
  }
  snap_serves _ h before now = absurd h
