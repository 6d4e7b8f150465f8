use Rattle.std.proofs.Common.{◌≡◌, ◌≤◌, ◌^◌, Err, inr, ap, ◌∙◌, subst, rules}
use Rattle.spec_loading.specs.spec_runtime.Courses.{state_at}
use Rattle.spec_loading.specs.spec_linking.LinkedSets.{LinkedSet}
use Rattle.spec_snapshots.specs.declared.fault.SnapFault.TheVariants as faults
use Rattle.dyl_store.specs.Stores.{set_course}
use Rattle.merge_whole.proofs.Joins.{few_members}
use Rattle.snap_merge.proofs.Answered.{if_ok, write_tells, too_long_of, amount_is, spelled_of, tells_long}
use Rattle.snap_merge.proofs.writing.written.Goals as goal

pub encoded-bytes-requires-clause-few : goal.encoded-bytes-requires-clause-few
encoded-bytes-requires-clause-few c = few_members c.args.linked.now c.links.ensures.shape c.members-members.result.now c.members-members.ensures

pub returns-clause-spelled : goal.returns-clause-spelled
returns-clause-spelled c =
    let L = c.args.linked.now in
    let s = state_at (set_course L) c.args.store.now.run in
    if_ok c.encoded-bytes.result (λ bytes shortest. spelled_of L s c.in_ok-module.module c.in_ok-module.ensures bytes.items shortest) c.encoded-bytes.ensures.shortest

pub returns-clause-tells : goal.returns-clause-tells
returns-clause-tells c =
    let L = c.args.linked.now in
    let run = c.args.store.now.run in
    let s = state_at (set_course L) run in
    let found = c.requires.found in
    let space = c.memory.ensures found ∙ ap (λ (M : LinkedSet). (state_at (set_course M) run).run.memory) c.requires.same in
    let tables = c.tables.ensures found ∙ ap (λ (M : LinkedSet). (state_at (set_course M) run).run.units.tables) c.requires.same in
    let all = amount_is L c.members-members.result.now c.members-members.ensures s c.memory.result.now c.tables.result.now space tables in
    write_tells L s c.encoded-bytes.result c.encoded-bytes.ensures.faults (λ id e.
    too_long_of L s c.in_ok-module.module c.in_ok-module.ensures id (c.encoded-bytes.ensures.long id e) (subst (λ n. 2 ^ 32 ≤ n) all (c.encoded-bytes.ensures.much id e)))

pub returns-clause-only_long : goal.returns-clause-only_long
returns-clause-only_long c =
    let L = c.args.linked.now in
    tells_long c.written_contents_are_one.ensures.one L (state_at (set_course L) c.args.store.now.run) c.in_ok-module.module c.in_ok-module.ensures c.encoded-bytes.result
    c.encoded-bytes.ensures.only_long

pub returns-in_err-module-clause-only_long : goal.returns-in_err-module-clause-only_long
returns-in_err-module-clause-only_long c =
    let fails : c.from_residual.result ≡ Err faults.Memory = search rules in
    λ id t held too. inr fails
