use Rattle.std.proofs.Common.{arith, ap, refl, ◌∙◌, length, ◌≡◌, List, Err}
use Rattle.wasm_form.specs.declared.module.Import.{Import}
use Rattle.wasm_form.specs.declared.module.Module.{Module}
use Rattle.spec_safety.specs.spec_binary.IndexSpaces.{imports_of, functions_in}
use Rattle.wasm_instance.specs.Kept.{parts_in}
use Rattle.wasm_instance.proofs.OpeningState.{opens_told}
use Rattle.wasm_instance.proofs.Alone.{functions_at_most}
use Rattle.wasm_instance.proofs.instance.Instance.open.Goals as goal

pub overflow_cast-imported : goal.overflow_cast-imported
overflow_cast-imported c =
    let m = c.args.checked.now in
    let imports : c.items.result.now ≡ m.imports = c.items.ensures ∙ ap (λ (x : Module). x.imports) c.module-m.ensures.same in
    let types : length c.in_ok-host_types.host_types.items ≡ length (imports_of functions_in m.imports) = ap length c.in_ok-host_types.ensures ∙ ap (λ (is : List Import). length (imports_of functions_in is)) imports in
    omega (arith, types, functions_at_most m.imports, c.module-m.ensures.formed.imports.0)

pub returns : goal.returns
returns c =
    opens_told c.module-m.result.now c.args.checked.now c.module-m.ensures.same (parts_in c.apply.new.parts) c.apply.new.parts.memory (Err c.in-Err.fault) c.in-Err.fault refl c.in-Err.ensures.applied
