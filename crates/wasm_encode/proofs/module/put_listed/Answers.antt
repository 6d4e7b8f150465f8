use Rattle.std.proofs.Common.{rules, ◌≡◌, ◌+◌, sym, subst, add-one}
use Rattle.wasm_encode.specs.SectionSizes.{IsFirstTooLong}
use Rattle.wasm_encode.specs.Written.{IsLongList}
use Rattle.spec_reading.proofs.of_spec_binary.Joined.{if_ok}
use Rattle.wasm_encode.proofs.Begun.{placed_short}
use Rattle.wasm_encode.proofs.SectionSteps.{section_begun, listed_begun, customs_too_long_at}
use Rattle.wasm_encode.proofs.module.put_listed.Goals as goal

pub put_customs-requires : goal.put_customs-requires
put_customs-requires g c = placed_short c.requires.begun.placed

pub returns-in_err-put_section-clause-long : goal.returns-in_err-put_section-clause-long
returns-in_err-put_section-clause-long g c = λ n e.
    let found : (n ≡ c.args.id) × IsLongList g.T.Part.spells g.T.Part.too_long c.items.result.now = search rules in
    let long = rw c.items.ensures at found in
    subst (λ k. IsFirstTooLong c.args._of.now k) (sym long.0) (c.requires.step.too_long c.requires.begun long.1)

pub returns-clause-ok : goal.returns-clause-ok
returns-clause-ok g c =
    let added = rw c.items.ensures at c.in_ok-put_section.ensures.ok in
    if_ok c.put_customs.result (λ rest a. listed_begun (c.args.rank + 1) (add-one c.args.rank) c.requires.step c.requires.begun added a) c.put_customs.ensures.ok

pub returns-clause-long : goal.returns-clause-long
returns-clause-long g c = λ n e.
    let added = rw c.items.ensures at c.in_ok-put_section.ensures.ok in
    customs_too_long_at (c.args.rank + 1) (add-one c.args.rank) (section_begun c.requires.step.step c.requires.begun added) n (c.put_customs.ensures.long n e)
