use Rattle.std.proofs.Common.{[], ◌∷◌, ◌++◌, ap, sym, ◌∙◌, arith}
use Rattle.merge_find.specs.Building.{names_of}
use Rattle.merge_find.proofs.Splits.{names_push, strings_one}
use Rattle.merge_find.proofs.named.put_named.Goals as goal

pub returns-clause-names : goal.returns-clause-names
returns-clause-names c =
    let may = strings_one c.args.name.now c.args.code.items (omega (arith, c.if-name.false)) (λ j. omega (arith, c.type_inv.name j)) in
    names_push c.args.to.now.items c.push.new.self.items _ c.in_ok-push.ensures.items
    ∙ ap (λ l. names_of c.args.to.now.items ++ l) (ap (λ name. (name, c.args.code.items) ∷ []) (c.of-name.ensures ∙ c.in_ok-from_slice.ensures.items) ∙ sym may)
