use Rattle.std.proofs.Common.{◌≡◌, ◌+◌, ◌^◌, ◌<◌, List, [], ◌∷◌, ◌++◌, None, sym, ap, ap₂, ◌∙◌, subst, arith}
use Rattle.wasm_form.specs.declared.instr.BlockType.TheVariants.{Empty}
use Rattle.wasm_form.specs.declared.instr.Instr.{Instr, Plain, Index, If}
use Rattle.merge_pieces.specs.Code.{number, guarded}
use Rattle.merge_pieces.specs.Guards.{GuardsWithin}
use Rattle.merge_pieces.proofs.Guards.{guards_within}
use Rattle.merge_pieces.proofs.code.guarded.Goals as goal

pub returns-clause-steps : goal.returns-clause-steps
unfolding guarded
returns-clause-steps c =
    let g = c.args.guards + c.args.m in
    let inner : c.of.result ≡ number c.args.stage ∷ Index 0x24 g ∷ c.args.work.items =
    c.of.ensures ∙ c.in_ok-append.ensures.items
    ∙ ap (λ l. l ++ c.args.work.items) (c.in_ok-body.ensures.items ∙ ap (λ (i : Instr). i ∷ Index 0x24 g ∷ []) c.number.ensures) in
    let same : c.in_ok-vec.field-0.items ≡ guarded g c.args.stage c.args.work.items =
    c.in_ok-vec.ensures.items
    ∙ ap₂ (λ (i : Instr) (list : List Instr). Index 0x23 g ∷ i ∷ Plain 0x49 ∷ If Empty (record { list = list }) None ∷ []) c.number-2.ensures inner in
    let word : c.args.stage < 2 ^ 32 = omega (arith, c.ranges.stage.fits) in
    subst (GuardsWithin g c.args.stage c.args.work.items) (sym same) (guards_within g c.args.stage c.args.work.items word)
