use Rattle.std.proofs.Common.{ℕ, ◌+◌, ◌*◌, ◌≤◌, length, Result, Ok, Err, IfOk, OnOk, Vec, Global, subst, sym}
use Rattle.spec_reading.specs.spec_binary.Number.{IsShortest}
use Rattle.spec_reading.specs.spec_binary.Modules.{SpellsModule}
use Rattle.spec_reading.specs.spec_binary.WellFormed.{IsWellFormed}
use Rattle.spec_merging.specs.declared.fault.MergeFault.{MergeFault}
use Rattle.wasm_encode.specs.SectionSizes.{IsFirstTooLong}
use Rattle.wasm_encode.specs.Weight.{weight}
use Rattle.merge_module.specs.Laws.{IsMergeable}
use Rattle.merge_whole.specs.Merges.{Merges}
use Rattle.merge_whole.proofs.Little.{formed, merges, too_long, little_fits}
use Rattle.merge_whole.proofs.sets.merge.Goals as goal

pub encoded-bytes-requires : goal.encoded-bytes-requires
encoded-bytes-requires c =
    let L = c.args.linked.now in
    let known : IsMergeable L = record { shape = c.links.ensures.shape; links = c.links.ensures.links; pages = c.has_few_pages.ensures; hosts = c.hosts_have_integers.ensures.supported } in
    record { formed = formed L known c.merged_modules_are_formed.ensures.formed c.in_ok-parts.parts.module c.in_ok-parts.ensures.merged }

pub returns-clause-merged : goal.returns-clause-merged
returns-clause-merged c = all c.encoded-bytes.result c.encoded-bytes.ensures.shortest c.encoded-bytes.ensures.size c.encoded-bytes.ensures.formed
  where
    known : IsMergeable c.args.linked.now
    known = record { shape = c.links.ensures.shape; links = c.links.ensures.links; pages = c.has_few_pages.ensures; hosts = c.hosts_have_integers.ensures.supported }

    all : (r : Result (Vec ℕ Global) MergeFault) → IfOk r (λ bytes. IsShortest (SpellsModule c.in_ok-parts.parts.module) bytes.items)
        → IfOk r (λ bytes. length bytes.items ≤ 16 * weight c.in_ok-parts.parts.module + 256) → OnOk r (IsWellFormed c.in_ok-parts.parts.module)
        → IfOk r (λ bytes. Merges c.args.linked.now bytes.items)
    all (Ok bytes) shortest few form =
        merges c.args.linked.now known c.bytes_spell_one_module.ensures
        c.spelled_modules_merge.ensures.merges c.merged_modules_are_formed.ensures.shape c.merged_modules_are_formed.ensures.light
        c.in_ok-parts.parts.module c.in_ok-parts.ensures.merged form bytes.items shortest few
    all (Err e) shortest few form = tt

pub returns-clause-long : goal.returns-clause-long
returns-clause-long c = λ id e.
    let L = c.args.linked.now in
    let known : IsMergeable L = record { shape = c.links.ensures.shape; links = c.links.ensures.links; pages = c.has_few_pages.ensures; hosts = c.hosts_have_integers.ensures.supported } in
    too_long L known c.spelled_modules_merge.ensures.stands c.merged_modules_are_formed.ensures.shape id
    (subst (λ m. IsFirstTooLong m id) c.in_ok-parts.ensures.merged (c.encoded-bytes.ensures.long id e)) (c.encoded-bytes.ensures.big id e)

pub returns-clause-only_long : goal.returns-clause-only_long
returns-clause-only_long c = λ id too. c.encoded-bytes.ensures.only_long id (subst (λ m. IsFirstTooLong m id) (sym c.in_ok-parts.ensures.merged) too)

pub returns-clause-little : goal.returns-clause-little
returns-clause-little c = λ id little few too.
    let L = c.args.linked.now in
    let known : IsMergeable L = record { shape = c.links.ensures.shape; links = c.links.ensures.links; pages = c.has_few_pages.ensures; hosts = c.hosts_have_integers.ensures.supported } in
    little_fits L known c.merged_modules_are_formed.ensures.short little few id too

pub returns-in_err-parts-clause-little : goal.returns-in_err-parts-clause-little
returns-in_err-parts-clause-little c = λ id little few too.
    let L = c.args.linked.now in
    let known : IsMergeable L = record { shape = c.links.ensures.shape; links = c.links.ensures.links; pages = c.has_few_pages.ensures; hosts = c.hosts_have_integers.ensures.supported } in
    little_fits L known c.merged_modules_are_formed.ensures.short little few id too
