-- The end of the stack, with the error texts behind it, is a word.
use Rattle.std.proofs.Common.{◌+◌, ◌≤◌, arith}
use Rattle.spec_loading.specs.spec_linking.Plans.{texts_size}
use Rattle.spec_loading.specs.spec_linking.LinkedSets.{LinkedSet}
use Rattle.spec_loading.specs.spec_linking.Slots.{linked_plan}
use Rattle.spec_loading.specs.spec_linking.Links.{Links}
use Rattle.spec_loading.proofs.of_spec_linking.LinkedFacts.{linked_limits}
use Rattle.spec_loading.proofs.PlannedWords.{texts_within}

pub stack_within : (L : LinkedSet) → Links L → (linked_plan L).pages_max ≤ 16384 → (linked_plan L).stack_top + texts_size ≤ 1073741824
stack_within L links few =
    let limits = linked_limits L links in
    let pages = limits.pages in
    let texts = texts_within L in
    omega arith
