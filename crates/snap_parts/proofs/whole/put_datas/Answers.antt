use Rattle.std.proofs.Common.{List, Some, length, ap}
use Rattle.spec_loading.specs.wasm_form.declared.module.Data.{Data}
use Rattle.snap_parts.proofs.whole.put_datas.Goals as goal

pub returns : goal.returns
returns c = record {
  is = ap (λ (l : List Data). record c.args.to.now { datas = c.in_ok-datas.datas; data_count = Some (length l) }) c.items.ensures;
  datas = c.in_ok-datas.ensures.held;
}
