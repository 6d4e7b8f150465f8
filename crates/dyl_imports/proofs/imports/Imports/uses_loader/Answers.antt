use Rattle.std.proofs.Common.{◌≡◌, ◌∙◌, ◌<◌, ◌+◌, ◌||◌, length, get_or, map, drop, arith, ap, sym}
use Rattle.spec_loading.specs.Members.{loader_from}
use Rattle.dyl_search.specs.Gathers.{member_of}
use Rattle.dyl_imports.proofs.Steps.{loader_step}
use Rattle.dyl_imports.proofs.imports.Imports.uses_loader.Goals as goal

pub returns-then-one_names_loader : goal.returns-then-one_names_loader
returns-then-one_names_loader c = λ L h.
    let members = c.args.self.now.known.members.now in
    let m = c.loop-m.m in
    let less : m < length members = omega arith in
    let at : c.index-self-m.result ≡ get_or members m c.index-self-m.result = cc in
    sym (ap (loader_from L 0) h.known.over.members ∙ sym (c.loop-m.invariant L h)
    ∙ loader_step L members m c.index-self-m.result c.module-wasm.result.now c.items.result.now c.one_names_loader.result less at (c.module-wasm.ensures.same ∙ ap (λ x. x.checked) (sym at)) c.items.ensures (c.one_names_loader.ensures L h)
    ∙ ap (λ b. b || loader_from L (m + 1) (map member_of (drop (m + 1) members))) c.if-one_names_loader.true)

pub loop-m-preserved : goal.loop-m-preserved
loop-m-preserved c = λ L h.
    let members = c.args.self.now.known.members.now in
    let m = c.loop-m.m in
    let less : m < length members = omega arith in
    let at : c.index-self-m.result ≡ get_or members m c.index-self-m.result = cc in
    sym (loader_step L members m c.index-self-m.result c.module-wasm.result.now c.items.result.now c.one_names_loader.result less at (c.module-wasm.ensures.same ∙ ap (λ x. x.checked) (sym at)) c.items.ensures (c.one_names_loader.ensures L h)
    ∙ ap (λ b. b || loader_from L (m + 1) (map member_of (drop (m + 1) members))) c.if-one_names_loader.false)
    ∙ c.loop-m.invariant L h
