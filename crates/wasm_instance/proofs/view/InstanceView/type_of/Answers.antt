use Rattle.std.proofs.Common.{arith, ◌≡◌, ap, ◌∙◌}
use Rattle.wasm_form.specs.declared.module.Module.{Module}
use Rattle.wasm_instance.specs.States.{InstanceState}
use Rattle.wasm_instance.proofs.FunctionTypes.{host_within, host_type_within, host_type_is, no_loader, no_stub}
use Rattle.wasm_instance.proofs.view.InstanceView.type_of.Goals as goal

pub index-requires : goal.index-requires
index-requires c =
    let i = c.self.inside in
    let wasm = ap (λ (s : InstanceState). s.wasm) c.self.view_is in
    let within = host_within i.checked.now c.args.self.now.wasm i.host_types.items c.args.r c.in-Host.entry c.self.invariant.source.alone.valid wasm c.self.invariant.hosts c.in-Host.is c.requires in
    omega (arith, within, i.host_types.ok.0)

pub bounds-items-index : goal.bounds-items-index
bounds-items-index c =
    let i = c.self.inside in
    let wasm = ap (λ (s : InstanceState). s.wasm) c.self.view_is in
    let types : c.items.result.now ≡ i.checked.now.types = c.items.ensures ∙ ap (λ (x : Module). x.types) c.module.ensures.same in
    host_type_within i.checked.now c.args.self.now.wasm i.host_types.items c.args.r c.in-Host.entry c.self.invariant.source.alone.valid wasm c.self.invariant.hosts c.in-Host.is c.requires c.index.result.now c.items.result.now c.index.ensures types

pub unreachable-requires : goal.unreachable-requires
unreachable-requires c = no_loader c.args.self.now.wasm c.args.r c.in-Loader.field-0 c.in-Loader.is c.requires

pub unreachable-requires-in-Stub : goal.unreachable-requires-in-Stub
unreachable-requires-in-Stub c = no_stub c.args.self.now.wasm c.args.r c.in-Stub.unit c.in-Stub.func c.in-Stub.is c.requires

pub returns-in-Host : goal.returns-in-Host
returns-in-Host c =
    let i = c.self.inside in
    let wasm = ap (λ (s : InstanceState). s.wasm) c.self.view_is in
    let types : c.items.result.now ≡ i.checked.now.types = c.items.ensures ∙ ap (λ (x : Module). x.types) c.module.ensures.same in
    host_type_is i.checked.now c.args.self.now.wasm i.host_types.items c.args.r c.in-Host.entry c.self.invariant.source.alone.valid wasm c.self.invariant.hosts c.in-Host.is c.requires c.index.result.now c.items.result.now c.index-items-index.result c.index.ensures types c.index-items-index.is
