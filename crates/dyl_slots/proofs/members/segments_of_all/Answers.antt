use Rattle.std.proofs.Common.{◌<◌, ◌∷◌, [], List, length, refl, sym, subst, arith}
use Rattle.std.proofs.lemmas.Grind.{common_steps}
use Rattle.std.specs.List.{All}
use Rattle.std.proofs.lemmas.Option.{slice_get_read}
use Rattle.std.proofs.lemmas.List.Elements.{All-nil, All-cons, All-append}
use Rattle.wasm_form.specs.declared.runtime.Ref.{Ref}
use Rattle.dyl_slots.specs.Given.{IsAt, IsSegmentedOf, AllAt, HasFew}
use Rattle.dyl_slots.proofs.AllMembers.{all_at_more, given_member, as_many_bases}
use Rattle.dyl_slots.proofs.members.segments_of_all.Goals as goal

pub bases_of-bases-requires-clause-memory : goal.bases_of-bases-requires-clause-memory
bases_of-bases-requires-clause-memory c =
    let many = as_many_bases c.requires.given.0 c.args.members.now c.args.plan.now c.args.functions.now c.requires.given.1 in
    omega (arith, many.0)

pub bases_of-bases-requires-clause-table : goal.bases_of-bases-requires-clause-table
bases_of-bases-requires-clause-table c =
    let many = as_many_bases c.requires.given.0 c.args.members.now c.args.plan.now c.args.functions.now c.requires.given.1 in
    omega (arith, many.1)

pub member_segments-requires : goal.member_segments-requires
member_segments-requires c =
    let m = c.loop-m.m in
    let L = c.requires.given.0 in
    let given = c.requires.given.1 in
    let inside : m < length c.args.members.now = omega arith in
    let count = given.count in
    let within : m < length c.args.functions.now = omega arith in
    let x = slice_get_read c.args.members.now (length c.args.members.now) m c.index-members-m.result refl inside c.index-members-m.is in
    let refs = slice_get_read c.args.functions.now (length c.args.functions.now) m c.index-functions-m.result refl within c.index-functions-m.is in
    let same = c.items.ensures in
    let b = c.bases_of-bases.ensures in
    let at = given_member L c.args.members.now c.args.plan.now c.args.functions.now given m c.index-members-m.result c.index-functions-m.result c.bases_of-bases.result x refs b.memory b.table b.small in
    record { at = (L, subst (λ (rs : List Ref). IsAt L m c.index-members-m.result rs c.bases_of-bases.result) (sym same) at) }

pub loop-m-preserved : goal.loop-m-preserved
loop-m-preserved c =
    let m = c.loop-m.m in
    let inside : m < length c.args.members.now = omega arith in
    record {
      count = grind (arith, common_steps);
      exact = λ L given.
          let count = given.count in
          let within : m < length c.args.functions.now = omega arith in
          let x = slice_get_read c.args.members.now (length c.args.members.now) m c.index-members-m.result refl inside c.index-members-m.is in
          let refs = slice_get_read c.args.functions.now (length c.args.functions.now) m c.index-functions-m.result refl within c.index-functions-m.is in
          let b = c.bases_of-bases.ensures in
          let at = given_member L c.args.members.now c.args.plan.now c.args.functions.now given m c.index-members-m.result c.index-functions-m.result c.bases_of-bases.result x refs b.memory b.table b.small in
          let here = subst (λ (rs : List Ref). IsAt L m c.index-members-m.result rs c.bases_of-bases.result) (sym c.items.ensures) at in
          let s : IsSegmentedOf L m c.in_ok-s.s = c.in_ok-s.ensures.exact L here in
          subst (AllAt (IsSegmentedOf L)) (sym c.in_ok-push.ensures.items) (all_at_more (IsSegmentedOf L) c.loop-m.all.items c.in_ok-s.s m (c.loop-m.invariant.exact L given) c.loop-m.invariant.count s);
      few = subst (All HasFew) (sym c.in_ok-push.ensures.items) (All-append HasFew c.loop-m.all.items (c.in_ok-s.s ∷ []) c.loop-m.invariant.few (All-cons HasFew c.in_ok-s.s [] c.in_ok-s.ensures.few (All-nil HasFew)));
    }
