use Rattle.std.proofs.Common.{◌≡◌, ◌++◌, ◌<◌, ◌≤◌, ◌+◌, ◌-◌, ◌^◌, length, nat_le, true, false, sym, ap, ◌∙◌, arith}
use Rattle.std.proofs.lemmas.List.{length-map}
use Rattle.std.proofs.lemmas.Bool.Decides.{nat_tests}
use Rattle.merge_find.specs.Decisions.{Named, lower}
use Rattle.merge_find.specs.Building.{goal_of, name_of, names_of, key_at}
use Rattle.merge_find.proofs.Halving.{asks_low, asks_high, low_place, high_place, some_kept, place_high, place_low, done_code, both_sides, half_less, split_count, few_deep, in_block_few, behind_few}
use Rattle.merge_find.proofs.building.+search.Goals as goal

pub ask-deeper-requires : goal.ask-deeper-requires
ask-deeper-requires t c = rw c.halved-low_place.ensures (few_deep c.args.rest.place.deep (length c.args.rest.names.items) c.requires.sound.some c.requires.sound.few)

pub ask-deeper-requires-2 : goal.ask-deeper-requires-2
ask-deeper-requires-2 t c = rw c.halved-high_place.ensures (few_deep c.args.rest.place.deep (length c.args.rest.names.items) c.requires.sound.some c.requires.sound.few)

pub ask-code_from-requires : goal.ask-code_from-requires
ask-code_from-requires t c = (
  let less = half_less c.args.rest.place c.args.rest.place.least c.requires.asking c.requires.many in let low = c.halved-low_place.ensures in let deep = c.deeper.ensures in (rw (deep, low) (omega arith)),
  record {
    place = rw (c.deeper.ensures, c.halved-low_place.ensures) (low_place c.args.rest.place c.requires.many c.requires.sound.place);
    some = some_kept c.in_ok-low.low.items _ c.in_ok-low.ensures.low (rw c.key_at-key.ensures c.requires.below);
    texts = c.in_ok-low.ensures.texts_low;
    few =
        let sum = split_count c.key_at-key.result c.args.bound c.args.rest.names.items c.in_ok-low.low.items c.in_ok-low.high.items c.in_ok-low.ensures.low c.in_ok-low.ensures.high in
        let le : length c.in_ok-low.low.items ≤ length c.in_ok-low.high.items = grind (arith, nat_tests, c.len.ensures, c.len-2.ensures, c.if-len.true) in
        rw (c.deeper.ensures, c.halved-low_place.ensures)
        (in_block_few c.args.rest.place.deep (length c.args.rest.names.items) (length c.in_ok-low.low.items) (length c.in_ok-low.high.items) (2 ^ 64) sum le c.requires.sound.few);
  },
)

pub ask-code_from-requires-2 : goal.ask-code_from-requires-2
ask-code_from-requires-2 t c = (
  let less = half_less c.args.rest.place c.args.bound c.requires.asking c.requires.many in let high = c.halved-high_place.ensures in let deep = c.deeper-2.ensures in (rw (deep, high) (omega arith)),
  record {
    place = rw (c.deeper-2.ensures, c.halved-high_place.ensures) (high_place c.args.rest.place c.args.bound c.requires.many c.requires.bound c.requires.sound.place);
    some = some_kept c.in_ok-low.high.items _ c.in_ok-low.ensures.high (rw c.key_at-key.ensures c.requires.above);
    texts = c.in_ok-low.ensures.texts_high;
    few =
        let sum = split_count c.key_at-key.result c.args.bound c.args.rest.names.items c.in_ok-low.low.items c.in_ok-low.high.items c.in_ok-low.ensures.low c.in_ok-low.ensures.high in
        let le : length c.in_ok-low.high.items ≤ length c.in_ok-low.low.items = grind (arith, nat_tests, c.len.ensures, c.len-2.ensures, c.if-len.false) in
        rw (c.deeper-2.ensures, c.halved-high_place.ensures)
        (in_block_few c.args.rest.place.deep (length c.args.rest.names.items) (length c.in_ok-low.high.items) (length c.in_ok-low.low.items) (2 ^ 64) (omega (arith, sum)) le c.requires.sound.few);
  },
)

pub ask-returns-then-len-clause-code : goal.ask-returns-then-len-clause-code
ask-returns-then-len-clause-code t c =
    let ls = rw c.key_at-key.ensures at c.in_ok-low.ensures.low in
    let hs = rw c.key_at-key.ensures at c.in_ok-low.ensures.high in
    let few : nat_le (length c.in_ok-low.low.items) (length c.in_ok-low.high.items) ≡ true = grind (arith, nat_tests, c.len.ensures, c.len-2.ensures, c.if-len.true) in
    rw (c.in_ok-put_asked.ensures, c.in_ok-code.ensures, c.deeper.ensures, c.halved-low_place.ensures, c.halved-high_place.ensures, c.key_at-key.ensures)
    (asks_low (goal_of c.args.search.now) c.args.rest.place c.args.bound c.requires.asking c.requires.many c.requires.bound
    c.args.rest.names.items c.in_ok-low.low.items c.in_ok-low.high.items ls hs c.requires.below c.requires.above c.args.to.now.items few)

pub ask-returns-then-len-clause-sound : goal.ask-returns-then-len-clause-sound
ask-returns-then-len-clause-sound t c =
    record {
      place = rw c.halved-high_place.ensures (high_place c.args.rest.place c.args.bound c.requires.many c.requires.bound c.requires.sound.place);
      some = some_kept c.in_ok-low.high.items _ c.in_ok-low.ensures.high (rw c.key_at-key.ensures c.requires.above);
      texts = c.in_ok-low.ensures.texts_high;
      few =
          let sum = split_count c.key_at-key.result c.args.bound c.args.rest.names.items c.in_ok-low.low.items c.in_ok-low.high.items c.in_ok-low.ensures.low c.in_ok-low.ensures.high in
          rw c.halved-high_place.ensures
          (behind_few c.args.rest.place.deep (length c.args.rest.names.items) (length c.in_ok-low.low.items) (length c.in_ok-low.high.items) (2 ^ 64) sum c.requires.sound.few);
    }

pub ask-returns-clause-code : goal.ask-returns-clause-code
ask-returns-clause-code t c =
    let ls = rw c.key_at-key.ensures at c.in_ok-low.ensures.low in
    let hs = rw c.key_at-key.ensures at c.in_ok-low.ensures.high in
    let few : nat_le (length c.in_ok-low.low.items) (length c.in_ok-low.high.items) ≡ false = grind (arith, nat_tests, c.len.ensures, c.len-2.ensures, c.if-len.false) in
    rw (c.in_ok-put_asked-2.ensures, c.in_ok-code-2.ensures, c.deeper-2.ensures, c.halved-low_place.ensures, c.halved-high_place.ensures, c.key_at-key.ensures)
    (asks_high (goal_of c.args.search.now) c.args.rest.place c.args.bound c.requires.asking c.requires.many c.requires.bound
    c.args.rest.names.items c.in_ok-low.low.items c.in_ok-low.high.items ls hs c.requires.below c.requires.above c.args.to.now.items few)

pub ask-returns-clause-sound : goal.ask-returns-clause-sound
ask-returns-clause-sound t c =
    record {
      place = rw c.halved-low_place.ensures (low_place c.args.rest.place c.requires.many c.requires.sound.place);
      some = some_kept c.in_ok-low.low.items _ c.in_ok-low.ensures.low (rw c.key_at-key.ensures c.requires.below);
      texts = c.in_ok-low.ensures.texts_low;
      few =
          let sum = split_count c.key_at-key.result c.args.bound c.args.rest.names.items c.in_ok-low.low.items c.in_ok-low.high.items c.in_ok-low.ensures.low c.in_ok-low.ensures.high in
          rw c.halved-low_place.ensures
          (behind_few c.args.rest.place.deep (length c.args.rest.names.items) (length c.in_ok-low.high.items) (length c.in_ok-low.low.items) (2 ^ 64) (omega (arith, sum)) c.requires.sound.few);
    }

pub code_from-returns : goal.code_from-returns
code_from-returns t c =
    let done = done_code (goal_of c.args.search.now) c.loop-code.rest.place (names_of c.loop-code.rest.names.items) (sym c.is_asking.ensures ∙ c.loop-code-test.false) in
    rw (c.in_ok-put_found.ensures, ← done) c.loop-code.invariant.code

pub halve-returns-then-count-eq0-clause-code : goal.halve-returns-then-count-eq0-clause-code
halve-returns-then-count-eq0-clause-code t c =
    let bound : c.args.rest.place.least + c.half.result ≡ c.args.rest.place.least + 2 ^ (c.args.rest.place.width - 1) = ap (λ k. c.args.rest.place.least + k) c.half.ensures in
    let count : c.count_below-count.result ≡ length (lower (key_at c.args.rest.place) (c.args.rest.place.least + c.half.result) (names_of c.args.rest.names.items)) =
    rw (← c.key_at.ensures, ← c.deref.ensures.value) c.count_below-count.ensures in
    let none : length (lower (key_at c.args.rest.place) (c.args.rest.place.least + c.half.result) (names_of c.args.rest.names.items)) ≡ 0 = sym count ∙ c.if-count-eq0.true in
    rw c.halved.ensures (ap (λ l. c.args.to.now.items ++ l)
    (place_high (goal_of c.args.search.now) c.args.rest.place (c.args.rest.place.least + c.half.result) c.requires.asking c.requires.many bound (names_of c.args.rest.names.items) none))

pub halve-returns-then-count-len-clause-code : goal.halve-returns-then-count-len-clause-code
halve-returns-then-count-len-clause-code t c =
    let bound : c.args.rest.place.least + c.half.result ≡ c.args.rest.place.least + 2 ^ (c.args.rest.place.width - 1) = ap (λ k. c.args.rest.place.least + k) c.half.ensures in
    let count : c.count_below-count.result ≡ length (lower (key_at c.args.rest.place) (c.args.rest.place.least + c.half.result) (names_of c.args.rest.names.items)) =
    rw (← c.key_at.ensures, ← c.deref.ensures.value) c.count_below-count.ensures in
    let many : length (names_of c.args.rest.names.items) ≡ length c.args.rest.names.items = length-map {B = Named} c.args.rest.names.items name_of in
    let some : 0 < length (names_of c.args.rest.names.items) = omega (arith, many, c.requires.sound.some) in
    let all : length (lower (key_at c.args.rest.place) (c.args.rest.place.least + c.half.result) (names_of c.args.rest.names.items)) ≡ length (names_of c.args.rest.names.items) =
    sym count ∙ c.if-count-len.true ∙ c.len.ensures ∙ sym c.deref.ensures.len ∙ ap length c.deref.ensures.value ∙ sym many in
    rw c.halved-then-count-len.ensures (ap (λ l. c.args.to.now.items ++ l)
    (place_low (goal_of c.args.search.now) c.args.rest.place (c.args.rest.place.least + c.half.result) c.requires.asking c.requires.many bound (names_of c.args.rest.names.items) some all))

pub halve-ask-requires : goal.halve-ask-requires
halve-ask-requires t c =
    let bound : c.args.rest.place.least + c.half.result ≡ c.args.rest.place.least + 2 ^ (c.args.rest.place.width - 1) = ap (λ k. c.args.rest.place.least + k) c.half.ensures in
    let count : c.count_below-count.result ≡ length (lower (key_at c.args.rest.place) (c.args.rest.place.least + c.half.result) (names_of c.args.rest.names.items)) =
    rw (← c.key_at.ensures, ← c.deref.ensures.value) c.count_below-count.ensures in
    let many : length (names_of c.args.rest.names.items) ≡ length c.args.rest.names.items = length-map {B = Named} c.args.rest.names.items name_of in
    let long : c.len.result ≡ length c.args.rest.names.items = c.len.ensures ∙ sym c.deref.ensures.len ∙ ap length c.deref.ensures.value in
    let sum = both_sides (key_at c.args.rest.place) (c.args.rest.place.least + c.half.result) (names_of c.args.rest.names.items) in
    let none = c.if-count-eq0.false in
    let all = c.if-count-len.false in
    (omega arith, (c.requires.sound, (c.requires.asking, (c.requires.many, (bound, (omega (arith, none, count), omega (arith, all, count, many, long, sum)))))))
