-- What comes of merging a set that links.
use Rattle.std.proofs.Common.{◌≡◌, ℕ, List, [], Option, Some, None, Ok, refl, sym, ◌∙◌, subst, inl}
use Rattle.std.specs.Prelude.{IsSomeAnd}
use Rattle.std.specs.FinMap.{get}
use Rattle.spec_hosts.specs.dyl_outside.FileMap.{FileMap}
use Rattle.spec_hosts.specs.dyl_outside.Faults.{Rises}
use Rattle.spec_hosts.specs.dyl_outside.Files.{FilesState}
use Rattle.spec_hosts.specs.spec_runtime.Names.{HostNames}
use Rattle.spec_loading.specs.spec_linking.LinkedSets.{LinkedSet}
use Rattle.merge_whole.specs.Merges.{IsTooLongFor}
use Rattle.spec_merging.specs.declared.fault.MergeFault.{MergeFault}
use Rattle.spec_merging.specs.declared.fault.MergeFault.TheVariants as merge
use Rattle.dyl_link.specs.dyl_search.declared.set.SetOptions.{SetOptions}
use Rattle.dyl_link.specs.dyl_search.Gathers.{options_of}
use Rattle.dyl_link.specs.declared.options.LinkOptions.{LinkOptions}
use Rattle.dyl_link.specs.Sets as links
use Rattle.dyl_front.specs.declared.order.Order.TheVariants as order
use Rattle.dyl_front.specs.declared.outcome.Outcome.{Outcome}
use Rattle.dyl_front.specs.declared.outcome.Outcome.TheVariants.{Done, Merge, WriteFault, Memory}
use Rattle.dyl_commands.specs.Linking.{linked, LinksAt}
use Rattle.merge_whole.specs.Merges as whole
use Rattle.dyl_commands.specs.Files.{IsMerged}
use Rattle.dyl_commands.specs.Served.{Serves, Gets, HoldsMerged, StoresOutput, WritesMerged, merge_outcome}

-- what is stored is what was merged
pub stored_merged : (L : LinkedSet) (out bytes : List ℕ) (old new : FilesState) → whole.Merges L bytes → StoresOutput out bytes (Ok tt) old new → WritesMerged L out (Done []) old new
stored_merged L out bytes old new merges h = λ files told. subst (λ after. IsSomeAnd after (HoldsMerged L out files)) (sym (h files told)) (record { output = bytes; merges = merges; written = refl })

-- nothing is merged
pub not_merged : (L : LinkedSet) (out : List ℕ) (fault : MergeFault) (old : FilesState) → ((id : ℕ) → fault ≡ merge.SectionSize id → IsTooLongFor L id) → WritesMerged L out (merge_outcome fault) old old
not_merged L out merge.Memory old long = λ files told. told
not_merged L out (merge.SectionSize id) old long = (long id refl, refl)

module _ (names : HostNames) (o : SetOptions) (l : LinkOptions) (out : List ℕ) (L : LinkedSet) (old mid new : FilesState) (gets : Gets names (options_of o) (links.options_of l) (Ok L) old mid) where
  links_at : (files : FileMap) → old.told ≡ Some files → LinksAt names (get files) (options_of o) (links.options_of l)
  links_at files told = record { set = gets.got.set; gathered = gets.got.gathered files told; links = gets.got.links }

  merged_at : (files : FileMap) → old.told ≡ Some files → (after : Option FileMap) → IsSomeAnd after (HoldsMerged L out files)
      → IsSomeAnd after (IsMerged names (options_of o) (links.options_of l) out files)
  merged_at files told None h = h
  merged_at files told (Some after) h =
      let merges : whole.Merges (linked names (links.options_of l) gets.got.set) h.output = subst (λ (M : LinkedSet). whole.Merges M h.output) gets.got.is h.merges in
      record {
        set = gets.got.set;
        gathered = gets.got.gathered files told;
        links = gets.got.links;
        output = h.output;
        merged = merges.merged;
        shape = merges.shape;
        decoded = merges.decoded;
        shortest = merges.shortest;
        size = merges.size;
        written = h.written;
      }

  pub merge_serves : (answer : Outcome) → WritesMerged L out answer mid new → (before now : ℕ) → Serves names (Ok (order.Merge o l out)) answer old new before now
  unfolding links_at
  merge_serves (Done []) h before now = record {
    tells = links_at;
    leaves = λ files told. merged_at files told new.told (h files (gets.files ∙ told));
    caused = refl;
    inner = refl;
  }
  merge_serves WriteFault h before now = record {
    tells = links_at;
    leaves = λ files told. h.0 files (gets.files ∙ told);
    caused = subst (λ n. Rises n new.write_faults) gets.writes h.1;
    inner = refl;
  }
  merge_serves (Merge merge.Memory) h before now = absurd h
  merge_serves (Merge (merge.SectionSize id)) h before now = record {
    tells = λ files told. record {
      merges = links_at files told;
      long = subst (λ (M : LinkedSet). IsTooLongFor M id) gets.got.is h.0;
    };
    leaves = λ files told. h.1 ∙ gets.files ∙ told;
    caused = tt;
    inner = refl;
  }
  merge_serves Memory h before now = record {
    tells = λ files told. tt;
    leaves = λ files told. inl (h files (gets.files ∙ told));
    caused = tt;
    inner = refl;
  }
  merge_serves _ h before now = absurd h
