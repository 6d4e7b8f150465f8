use Rattle.std.proofs.Common.{◌∙◌, ◌++◌, ◌∷◌, [], List, ℕ, ap₂, sym, arith}
use Rattle.std.proofs.lemmas.List.FromFn.{map-range_with_len_more}
use Rattle.dyl_store.specs.Opening.{global_place}
use Rattle.dyl_store.proofs.opened_members.first_globals.Goals as goal

pub loop-g-preserved : goal.loop-g-preserved
loop-g-preserved c =
    c.in_ok-push.ensures.items
    ∙ ap₂ (λ (ls : List ℕ) (one : ℕ). ls ++ one ∷ []) c.loop-g.invariant c.global_place.ensures
    ∙ sym (map-range_with_len_more (global_place c.args.addresses.now c.args.m) 0 c.loop-g.g c.loop-g.g (omega arith))
