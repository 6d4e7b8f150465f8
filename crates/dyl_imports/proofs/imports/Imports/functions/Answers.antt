use Rattle.std.proofs.Common.{◌≡◌, ◌∙◌, get_or, ap, sym, slice_get}
use Rattle.spec_loading.specs.spec_validation.Faults.{fault}
use Rattle.dyl_search.specs.Gathers.{member_of}
use Rattle.dyl_imports.proofs.Steps.{member_here, listed_all}
use Rattle.dyl_imports.proofs.imports.Imports.functions.Goals as goal

pub returns : goal.returns
returns c = λ L h none f.
    let members = c.args.self.now.known.members.now in
    let member = c.index-self-m.result in
    let at : member ≡ get_or members c.args.m member = cc in
    ap (λ rs. slice_get rs f) c.of.ensures
    ∙ listed_all L c.args.m (member_of member) c.module-wasm.result.now c.in_ok-refs.refs.items c.add_own.new.refs.items c.items.result.now c.items-2.result.now
    (c.module-wasm.ensures.same ∙ ap (λ x. x.checked) (sym at)) c.items.ensures c.items-2.ensures (ap (λ x. fault x.checked) at ∙ c.module-wasm.ensures.valid) none (member_here L members c.args.m member h.known.over.members c.requires.inside at)
    (c.in_ok-refs.ensures.exact L h) c.in_ok-add_own.ensures f
