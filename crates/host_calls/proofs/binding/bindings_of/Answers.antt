use Rattle.std.proofs.Common.{◌≡◌, ◌∷◌, [], ◌++◌, take, subst, arith}
use Rattle.std.proofs.lemmas.Grind.{common_steps}
use Rattle.host_table.specs.Names.{host_name_of}
use Rattle.host_calls.specs.Bindings.{IsBinding}
use Rattle.host_calls.proofs.Pointwise.{pointwise_more}
use Rattle.host_calls.proofs.binding.bindings_of.Goals as goal

pub loop-host-preserved : goal.loop-host-preserved
loop-host-preserved g c =
    let so_far = c.loop-host.invariant in
    let more : c.push.new.self.items ≡ c.loop-host.bindings.items ++ c.binding_of.result ∷ [] = grind (arith, common_steps) in
    let t = c.args.table.now in
    let last = subst (λ h. IsBinding t (host_name_of h) c.binding_of.result) c.host-item.is c.binding_of.ensures in
    rw more (record {
      count = grind (arith, common_steps, so_far.count);
      bound = pointwise_more (IsBinding t) (λ h. host_name_of h) c.args.hosts.now c.loop-host.bindings.items c.loop-host.host-index c.host-item.result c.binding_of.result c.loop-host-test.true so_far.count so_far.bound last;
    })

pub returns : goal.returns
returns g c = let all : take c.loop-host.host-index c.args.hosts.now ≡ c.args.hosts.now = grind (arith, common_steps) in rw all at c.loop-host.invariant.bound
