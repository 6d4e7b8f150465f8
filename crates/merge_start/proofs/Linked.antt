-- The members of a linked set are few.
use Rattle.std.proofs.Common.{◌<◌, ◌^◌, ℕ, List, length, arith}
use Rattle.std.specs.List.{All}
use Rattle.std.proofs.lemmas.List.Elements.{All-same, All-weaker}
use Rattle.spec_loading.specs.spec_linking.Gathering.{IsSet}
use Rattle.spec_loading.specs.spec_linking.Orders.{closure, post_order}
use Rattle.spec_loading.specs.spec_linking.LinkedSets.{LinkedSet}
use Rattle.spec_loading.proofs.InsideSets.{closure_inside, post_inside}
use Rattle.merge_start.specs.Listed.{AreFew}

module _ (L : LinkedSet) (shape : IsSet L.set) where
  inside_is_few : (ms : List ℕ) → All (λ m. m < length L.set.members) ms → AreFew ms
  inside_is_few ms all =
      All-weaker (λ m. m < length L.set.members) (λ m. m < 2 ^ 16) (λ m lt. (let few = shape.few in omega arith)) ms all

  pub closure_few : (m : ℕ) → m < length L.set.members → AreFew (closure L.set m)
  closure_few m lt = inside_is_few (closure L.set m) (closure_inside L.set shape m lt)

  pub startup_few : AreFew L.set.startup
  startup_few = All-same (λ m. m < 2 ^ 16) L.set.startup (closure L.set 0) shape.startup (closure_few 0 shape.some)

  pub post_few : (m : ℕ) → m < length L.set.members → AreFew (post_order L.set m)
  post_few m lt = inside_is_few (post_order L.set m) (post_inside L.set shape m lt)
