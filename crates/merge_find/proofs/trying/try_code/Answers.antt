use Rattle.std.proofs.Common.{[], ◌∷◌, sym, ap, ◌∙◌, subst}
use Rattle.wasm_form.specs.declared.instr.Instr.{Instr, Plain, Index}
use Rattle.merge_find.specs.Decisions.{when}
use Rattle.merge_find.specs.Trying.{SearchesOnce}
use Rattle.merge_find.proofs.Tried.{searches_once}
use Rattle.merge_find.proofs.trying.try_code.Goals as goal

pub returns-clause-once : goal.returns-clause-once
returns-clause-once c =
    let f = c.args.find in
    subst (SearchesOnce f)
    (sym (c.in_ok-vec.ensures.items
    ∙ ap (λ (i : Instr). Index 0x20 1 ∷ Index 0x20 2 ∷ Index 0x10 f ∷ Index 0x22 3 ∷ Plain 0x50 ∷ Plain 0x45 ∷ i ∷ []) (c.when.ensures ∙ ap when c.in_ok-found.ensures.items)))
    (searches_once f)
