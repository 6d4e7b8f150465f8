use Rattle.std.proofs.Common.{◌∙◌, ◌++◌, ◌∷◌, [], List, ℕ, ap₂, sym, arith}
use Rattle.std.proofs.lemmas.List.FromFn.{map-range_with_len_more}
use Rattle.dyl_store.specs.Opening.{table_place}
use Rattle.dyl_store.proofs.opened_members.first_tables.Goals as goal

pub loop-t-preserved : goal.loop-t-preserved
loop-t-preserved c =
    c.in_ok-push.ensures.items
    ∙ ap₂ (λ (ls : List ℕ) (one : ℕ). ls ++ one ∷ []) c.loop-t.invariant c.table_place.ensures
    ∙ sym (map-range_with_len_more (table_place c.args.addresses.now c.args.m) 0 c.loop-t.t c.loop-t.t (omega arith))
