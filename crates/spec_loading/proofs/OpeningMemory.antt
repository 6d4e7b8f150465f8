-- The memory with which a linked set begins is one: zeros in the planned pages, and bytes of texts over them.
use Rattle.std.proofs.Common.{◌≡◌, ℕ, ◌+◌, ◌*◌, ◌<◌, List, [], ◌∷◌, length, true, nat_lt, refl, arith}
use Rattle.std.specs.List.{list_all}
use Rattle.std.proofs.lemmas.Bool.{and_parts, ltb-true, le-leb}
use Rattle.std.proofs.lemmas.List.Elements.{All-nil, All-cons}
use Rattle.spec_linking.specs.spec_runtime.Memories.{page_size, new_memory, zeros}
use Rattle.spec_linking.specs.LinkedSets.{LinkedSet}
use Rattle.spec_linking.specs.Slots.{linked_plan}
use Rattle.spec_linking.specs.Links.{Links}
use Rattle.spec_linking.proofs.LinkedFacts.{linked_limits}
use Rattle.spec_safety.specs.ValueTypes.{AreBytes, IsMemory}
use Rattle.spec_safety.proofs.ByteLists.{new_memory_is}
use Rattle.spec_safety.proofs.KeptMemories.{over_kept}
use Rattle.spec_loading.specs.Texts.{error_texts}
use Rattle.spec_loading.specs.LoadedSet.{opening_memory}
use Rattle.spec_loading.specs.SoundSets.{HasFewPages}
use Rattle.spec_loading.proofs.Rows.{texts_length}
use Rattle.spec_loading.proofs.OpeningSizes.{zeros_length}
use Rattle.spec_loading.proofs.PlannedWords.{texts_within}

all_bytes : (bytes : List ℕ) → list_all (λ b. nat_lt b 256) bytes ≡ true → AreBytes bytes
all_bytes [] e = All-nil (λ b. b < 256)
all_bytes (b ∷ bytes) e =
    let both = and_parts (nat_lt b 256) (list_all (λ b. nat_lt b 256) bytes) e in
    All-cons (λ b. b < 256) b bytes (ltb-true b 256 both.0) (all_bytes bytes both.1)

texts_are_bytes : AreBytes error_texts
unfolding error_texts
texts_are_bytes = all_bytes error_texts refl

module _ (L : LinkedSet) (links : Links L) (few : HasFewPages L) where
  -- zeros in the planned pages
  empty_sound : IsMemory (new_memory (linked_plan L).pages (linked_plan L).pages_max)
  empty_sound =
      new_memory_is (linked_plan L).pages (linked_plan L).pages_max (linked_limits L links).pages (omega arith)

  pub opening_memory_sound : IsMemory (opening_memory L)
  opening_memory_sound =
      let within = texts_within L in
      let size = zeros_length ((linked_plan L).pages * page_size) in
      let many = texts_length in
      let bytes = zeros ((linked_plan L).pages * page_size) in
      over_kept (new_memory (linked_plan L).pages (linked_plan L).pages_max) (linked_plan L).stack_top error_texts
      (le-leb ((linked_plan L).stack_top + length error_texts) (length bytes) (omega arith)) empty_sound texts_are_bytes
