use Rattle.std.proofs.Common.{[], ◌∷◌, ap, ap₂, ◌∙◌}
use Rattle.wasm_form.specs.declared.instr.Instr.{Instr, Plain, Index}
use Rattle.spec_loading.specs.LoaderAnswers.{bad_flags_error}
use Rattle.merge_dl.specs.Words.{when, give_code, fault_code}
use Rattle.merge_dl.specs.Listed.{finders_in}
use Rattle.merge_dl.proofs.dlopen.open_begin.Goals as goal

pub returns : goal.returns
returns c =
    let f = c.args.n.now.first_function in
    c.in_ok-vec.ensures.items
    ∙ ap₂ (λ (a b : Instr).
    Index 0x20 0 ∷ Plain 0x45 ∷ a ∷ Index 0x20 0 ∷ Index 0x10 f ∷ Index 0x21 2 ∷ Index 0x20 1 ∷ c.number.result ∷ Plain 0x71 ∷ b ∷ [])
    (c.when.ensures ∙ ap when c.in_ok-itself.ensures) (c.when-2.ensures ∙ ap when c.in_ok-refused.ensures)
    ∙ ap (λ (k : Instr).
    Index 0x20 0 ∷ Plain 0x45 ∷ when (give_code 1) ∷ Index 0x20 0 ∷ Index 0x10 f ∷ Index 0x21 2 ∷ Index 0x20 1 ∷ k ∷ Plain 0x71
    ∷ when (fault_code (finders_in c.args.n.now) bad_flags_error 0) ∷ [])
    c.number.ensures
