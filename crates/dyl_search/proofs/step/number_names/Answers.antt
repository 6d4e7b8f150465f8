use Rattle.std.proofs.Common.{arith, ◌≡◌, ◌∙◌, ◌<◌, ◌++◌, ◌∷◌, [], ap, sym, subst, length, map, take, ◌+◌, List}
use Rattle.std.proofs.lemmas.List.{length-take-le}
use Rattle.spec_linking.specs.Wanted.{Wanted, with_name, number_of}
use Rattle.spec_linking.proofs.Numbering.{Have, more_known, more_have, more_numbers}
use Rattle.dyl_search.proofs.FewNames.{names_few}
use Rattle.dyl_search.proofs.step.number_names.Goals as goal

pub number-requires : goal.number-requires
number-requires c =
    let needed = c.args.needed.now in
    let lt : c.loop-name.name-index < length needed = omega arith in
    let taken = length-take-le c.loop-name.name-index needed (omega arith) in
    let same = ap length c.loop-name.invariant.known in
    let few = names_few c.args.needed_by c.args.names.now (take c.loop-name.name-index needed) in
    omega arith

pub loop-name-preserved : goal.loop-name-preserved
loop-name-preserved c =
    let lt : c.loop-name.name-index < length c.args.needed.now = omega arith in
    let x = c.name-item.result in
    let m = c.args.needed_by in
    let old = c.loop-name.names in
    let is : c.number.new.self ≡ with_name m old x = c.in_ok-number.ensures.known ∙ ap (with_name m old) c.as_str.ensures in
    let P : List Wanted → Type 0 = λ ks. Have ks (take (c.loop-name.name-index + 1) c.args.needed.now) in
    record {
      known = is ∙ more_known m c.args.names.now old c.args.needed.now c.loop-name.name-index x c.name-item.is lt c.loop-name.invariant.known;
      have = subst P (sym is) (more_have m c.args.names.now old c.args.needed.now c.loop-name.name-index x c.name-item.is lt c.loop-name.invariant.have);
      numbers = c.in_ok-push.ensures.items
          ∙ ap (λ n. c.loop-name.numbers.items ++ n ∷ []) (c.in_ok-number.ensures.number ∙ ap (number_of c.number.new.self) c.as_str.ensures ∙ ap (λ ks. number_of ks x) is)
          ∙ more_numbers m c.args.names.now old c.args.needed.now c.loop-name.name-index x c.name-item.is lt c.loop-name.numbers.items c.loop-name.invariant.have c.loop-name.invariant.numbers
          ∙ ap (λ ks. map (number_of ks) (take (c.loop-name.name-index + 1) c.args.needed.now)) (sym is);
    }
