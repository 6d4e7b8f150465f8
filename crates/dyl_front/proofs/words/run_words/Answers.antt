use Rattle.std.proofs.Common.{rules, ◌≡◌, ◌∷◌, subst, sym, ℕ, List, Bor, map}
use Rattle.dyl_words.specs.Shown.{shown}
use Rattle.dyl_words.specs.declared.names.CommandName.TheVariants as command
use Rattle.dyl_front.specs.Orders.{Reads, order_by}
use Rattle.dyl_front.proofs.words.run_words.Goals as goal

pub returns-in-Some : goal.returns-in-Some
returns-in-Some c =
    let split : map (λ (x : Bor (List ℕ)). x.now) c.args.words.now ≡ c.in-Some.main.now.now ∷ map (λ (x : Bor (List ℕ)). x.now) c.in-Some.args.now = search rules in
    subst (λ ws. Reads c.run_order.result (order_by command.Run ws (shown c.args.asked.now))) (sym split) c.run_order.ensures
