use Rattle.std.proofs.Common.{◌≡◌, ◌++◌, ◌∷◌, true, false, rules, refl, sym, ap, ◌∙◌, arith, length, take, List}
use Rattle.spec_loading.specs.spec_runtime.Courses.{state_at}
use Rattle.spec_loading.specs.spec_linking.Sets.{Member}
use Rattle.spec_loading.specs.spec_linking.LinkedSets.{LinkedSet}
use Rattle.spec_loading.specs.Members.{from_members, uses_loader}
use Rattle.dyl_link.proofs.Indices.{members_count}
use Rattle.dyl_store.specs.Stores.{set_course}
use Rattle.snap_merge.specs.declared.added.Behind.{Behind}
use Rattle.snap_merge.specs.Added.{one_place}
use Rattle.snap_merge.proofs.AddedLists.{left_is, globals_bare, globals_whole, promoted_few}
use Rattle.snap_merge.proofs.added.read_behind.Goals as goal

pub put_loader-requires-clause-members : goal.put_loader-requires-clause-members
put_loader-requires-clause-members c =
    omega (arith, members_count c.args.linked.now c.members-members.result.now c.members-members.ensures, c.member_count.ensures.count, c.member_count.ensures.few)

pub put_loader-requires-clause-promoted : goal.put_loader-requires-clause-promoted
put_loader-requires-clause-promoted c =
    let L = c.args.linked.now in
    let run = c.args.store.now.run in
    let few = promoted_few L (omega (arith, c.member_count.ensures.count, c.member_count.ensures.few)) (state_at (set_course L) run).loader c.requires.sound in
    let same = ap length (c.promoted.ensures c.requires.found ∙ ap (λ (M : LinkedSet). (state_at (set_course M) run).loader.promoted) c.requires.same) in
    omega arith

pub returns-then-not-uses_loader : goal.returns-then-not-uses_loader
returns-then-not-uses_loader c =
    let L = c.args.linked.now in
    let run = c.args.store.now.run in
    let loader = (state_at (set_course L) run).loader in
    let b : Behind = record { globals = c.in_ok-globals.globals; left = c.in_ok-left.left } in
    let is = c.in_ok-globals.ensures ∙ ap (λ (M : LinkedSet). take c.member_count.result (state_at (set_course M) run).loader.stages) c.requires.same
    ∙ ap (λ n. take n loader.stages) c.member_count.ensures.count in
    let off : c.uses_loader.result ≡ false = search rules in
    let none : uses_loader L ≡ false = sym c.uses_loader.ensures ∙ off in
    record {
      globals = globals_bare L loader c.requires.sound b c.in_ok-globals.globals.items is none refl;
      left = left_is L loader c.requires.sound b c.deref.result.now (c.deref.ensures.value ∙ is) c.in_ok-left.ensures;
    }

pub returns : goal.returns
returns c =
    let L = c.args.linked.now in
    let run = c.args.store.now.run in
    let loader = (state_at (set_course L) run).loader in
    let b : Behind = record { globals = c.put_loader.new.to; left = c.in_ok-left.left } in
    let is = c.in_ok-globals.ensures ∙ ap (λ (M : LinkedSet). take c.member_count.result (state_at (set_course M) run).loader.stages) c.requires.same
    ∙ ap (λ n. take n loader.stages) c.member_count.ensures.count in
    let on : c.uses_loader.result ≡ true = search rules in
    let uses : uses_loader L ≡ true = sym c.uses_loader.ensures ∙ on in
    record {
      globals = globals_whole L loader c.requires.sound b c.in_ok-globals.globals.items is uses c.error.result c.promoted.result.now
          (c.error.ensures c.requires.found ∙ ap (λ (M : LinkedSet). (state_at (set_course M) run).loader.error) c.requires.same)
          (c.promoted.ensures c.requires.found ∙ ap (λ (M : LinkedSet). (state_at (set_course M) run).loader.promoted) c.requires.same)
          (c.in_ok-put_loader.ensures
          ∙ ap (λ (ms : List Member). c.in_ok-globals.globals.items ++ c.error.result ∷ length c.promoted.result.now ∷ from_members (one_place c.promoted.result.now) 0 ms) c.members-members.ensures);
      left = left_is L loader c.requires.sound b c.deref.result.now (c.deref.ensures.value ∙ is) c.in_ok-left.ensures;
    }
