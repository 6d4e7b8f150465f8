use Rattle.std.proofs.Common.{◌≡◌, Err, rules, subst}
use Rattle.std.proofs.lemmas.List.{drop_all}
use Rattle.host_calls.specs.Embedders.{names_of}
use Rattle.dyl_link.specs.Sets as links
use Rattle.dyl_commands.specs.Served.{GetsAll, all_linked}
use Rattle.dyl_commands.proofs.Several.{begins, goes_on, breaks, ends, left_more}
use Rattle.dyl_commands.proofs.sets.link_each.Goals as goal

pub loop-main-init : goal.loop-main-init
loop-main-init g c = begins (names_of c.args.host.now) (links.options_of c.args.o.now) c.args.mains.now c.args.sets.now.items (g.F.Files.seen c.args.files.now) c.requires.none

pub loop-main-preserved : goal.loop-main-preserved
loop-main-preserved g c =
    goes_on (names_of c.args.host.now) (links.options_of c.args.o.now) c.args.mains.now _ _ c.as_str.result.now c.loop-main.sets.items c.link_next.new.sets.items
    (g.F.Files.seen c.args.files.now) (g.F.Files.seen c.loop-main.files) (g.F.Files.seen c.link_next.new.files) c.in_ok-link_next.field-0
    (left_more c.args.mains.now c.loop-main.main-index c.main-item.result c.as_str.result.now c.loop-main-test.true c.main-item.is c.as_str.ensures)
    c.loop-main.invariant c.in_ok-link_next.ensures

pub returns-in_err-link_next : goal.returns-in_err-link_next
returns-in_err-link_next g c =
    let fails : Err c.in_err-link_next.field-0.0 ≡ c.from_residual.result = search rules in
    subst
    (λ result. GetsAll (names_of c.args.host.now) c.args.mains.now (links.options_of c.args.o.now) (all_linked result c.link_next.new.sets.items) (g.F.Files.seen c.args.files.now) (g.F.Files.seen c.link_next.new.files))
    fails
    (breaks (names_of c.args.host.now) (links.options_of c.args.o.now) c.args.mains.now _ _ c.as_str.result.now c.loop-main.sets.items c.loop-main.sets.items c.link_next.new.sets.items _
    (g.F.Files.seen c.args.files.now) (g.F.Files.seen c.loop-main.files) (g.F.Files.seen c.link_next.new.files)
    (left_more c.args.mains.now c.loop-main.main-index c.main-item.result c.as_str.result.now c.loop-main-test.true c.main-item.is c.as_str.ensures)
    c.loop-main.invariant c.in_err-link_next.ensures)

pub returns : goal.returns
returns g c =
    ends (names_of c.args.host.now) (links.options_of c.args.o.now) c.args.mains.now _ c.loop-main.sets.items (g.F.Files.seen c.args.files.now) (g.F.Files.seen c.loop-main.files)
    (drop_all c.loop-main.main-index c.args.mains.now c.loop-main-test.false) c.loop-main.invariant
