use Rattle.std.proofs.Common.{ap}
use Rattle.wasm_instance.specs.States.{InstanceState}
use Rattle.wasm_instance.proofs.FunctionTypes.{named_kept}
use Rattle.wasm_instance.proofs.view.InstanceView.target.Goals as goal

pub returns : goal.returns
returns c =
    let source = c.self.invariant.source in
    named_kept c.self.inside.checked.now source.alone.valid c.args.self.now.wasm c.self.inside.imported c.args.f c.named.result (ap (λ (s : InstanceState). s.wasm) c.self.view_is) source.count c.requires c.named.ensures
