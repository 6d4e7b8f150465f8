use Rattle.std.proofs.Common.{◌≡◌, ◌<◌, length, get_or, arith, ap}
use Rattle.std.specs.List.{flat_map}
use Rattle.spec_loading.specs.spec_linking.LinkedSets.{host_of_import}
use Rattle.dyl_imports.specs.Hosts.{with_hosts}
use Rattle.dyl_imports.proofs.Steps.{more_imports}
use Rattle.dyl_imports.proofs.finding.add_imports.Goals as goal

pub loop-i-preserved : goal.loop-i-preserved
loop-i-preserved c =
    let imports = c.args.wasm.now.imports in
    let count : length c.items-i-items.result.now ≡ length imports = ap (λ is. length is) c.items-i-items.ensures in
    let less : c.loop-i.i-index < length imports = omega arith in
    let at : c.i-item.result ≡ get_or imports c.loop-i.i-index c.i-item.result = cc in
    record {
      exact = λ L h.
          more_imports (host_of_import L c.args.m c.args.wasm.now) c.loop-i.hosts c.add_import.new.hosts (with_hosts c.args.hosts.now (flat_map (host_of_import L c.args.m c.args.wasm.now) imports))
          imports c.loop-i.i-index c.i-item.result less at (c.loop-i.invariant.exact L h) (c.in_ok-add_import.ensures.exact L h);
      few = omega (arith, c.loop-i.invariant.few, c.in_ok-add_import.ensures.few);
    }
