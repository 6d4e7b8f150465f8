use Rattle.std.proofs.Common.{◌≡◌, ◌∙◌, ap, sym, refl, ◌<◌, length, get_or, map, [], arith}
use Rattle.spec_loading.specs.spec_linking.LinkedSets.{hosts_from}
use Rattle.dyl_search.specs.Gathers.{member_of}
use Rattle.dyl_imports.specs.Hosts.{with_hosts}
use Rattle.dyl_imports.proofs.Steps.{few_here, more_members, all_members}
use Rattle.dyl_imports.proofs.finding.add_hosts.Goals as goal

pub loop-m-init : goal.loop-m-init
loop-m-init c = record { exact = λ L h. rw c.requires.none refl; few = rw c.requires.none (omega arith) }

pub add_imports-requires-clause-few : goal.add_imports-requires-clause-few
add_imports-requires-clause-few c =
    let members = c.args.known.now.members.now in
    let less : c.loop-m.m < length members = omega arith in
    let at : c.index-known-m.result ≡ get_or members c.loop-m.m c.index-known-m.result = cc in
    let same : c.module-wasm.result.now ≡ c.index-known-m.result.checked = c.module-wasm.ensures.same ∙ ap (λ x. x.checked) (sym at) in
    let few = few_here members c.loop-m.m c.index-known-m.result c.module-wasm.result.now c.args.known.now.few less at same in
    let many = c.loop-m.invariant.few in
    let most = c.requires.few in
    omega arith

pub loop-m-preserved : goal.loop-m-preserved
loop-m-preserved c =
    let members = c.args.known.now.members.now in
    let less : c.loop-m.m < length members = omega arith in
    let at : c.index-known-m.result ≡ get_or members c.loop-m.m c.index-known-m.result = cc in
    let same : c.module-wasm.result.now ≡ c.index-known-m.result.checked = c.module-wasm.ensures.same ∙ ap (λ x. x.checked) (sym at) in
    let few = few_here members c.loop-m.m c.index-known-m.result c.module-wasm.result.now c.args.known.now.few less at same in
    record {
      exact = λ L h.
          more_members L c.loop-m.hosts c.add_imports.new.hosts (with_hosts [] (hosts_from L 0 (map member_of members))) members c.loop-m.m c.index-known-m.result c.module-wasm.result.now less at same
          (c.loop-m.invariant.exact L h) (c.in_ok-add_imports.ensures.exact L h);
      few = omega (arith, few, c.loop-m.invariant.few, c.in_ok-add_imports.ensures.few);
    }

pub returns : goal.returns
returns c = λ L h. all_members L c.loop-m.hosts c.args.known.now.members.now c.loop-m.m c.loop-m-test.false h.over.members (c.loop-m.invariant.exact L h)
