-- The merged module stands for the set, and bytes that spell it merge the set.
use Rattle.std.proofs.Common.{◌≤◌, List, ℕ}
use Rattle.std.specs.Prelude.{IsTrue}
use Rattle.std.specs.List.{All}
use Rattle.spec_reading.specs.spec_binary.Modules.{SpellsModule}
use Rattle.spec_loading.specs.spec_runtime.Names.{HostName}
use Rattle.spec_loading.specs.spec_validation.Faults.{is_function_supported}
use Rattle.spec_loading.specs.spec_execution.OneModule.{opened_state}
use Rattle.spec_loading.specs.spec_linking.LinkedSets.{LinkedSet, hosts_of}
use Rattle.spec_loading.specs.spec_linking.Slots.{linked_plan}
use Rattle.spec_loading.specs.LoadedSet.{opening_memory}
use Rattle.spec_loading.specs.Merged.{Merged}
use Rattle.merge_module.specs.Shape.{StandsFor}
use Rattle.merge_module.specs.MergedModule.{merged_module}
use Rattle.merge_module.proofs.Known.{IsKnown, HasCodeLaws}
use Rattle.merge_module.proofs.Opens.{X, M, opened, module_opens}
use Rattle.merge_module.proofs.Agrees.{runs_agree, runs_within}
use Rattle.merge_module.proofs.Valid.{merged_valid}

module _ (laws : HasCodeLaws) (L : LinkedSet) (K : IsKnown L) (few : (linked_plan L).pages_max ≤ 16384)
    (hosts : All (λ (h : HostName). IsTrue (is_function_supported h.ty)) (hosts_of L)) where
  pub stands : StandsFor L (merged_module L)
  stands = record {
    valid = merged_valid L K few laws.small laws.generated laws.loader hosts;
    opening = opened_state (M L K few) (X L K few).starting (opened L K few) (opening_memory L);
    opens = module_opens L K few;
    agrees = runs_agree laws.unused laws.lengths laws.searches laws.answered L K few laws.runs;
    within = runs_within laws.unused laws.lengths laws.searches laws.answered L K few laws.within;
  }

  pub merges : (bytes : List ℕ) → SpellsModule (merged_module L) bytes → Merged L bytes
  merges bytes spelled = record {
    wasm = merged_module L;
    spelled = spelled;
    valid = stands.valid;
    opening = stands.opening;
    opens = stands.opens;
    agrees = stands.agrees;
    within = stands.within;
  }
