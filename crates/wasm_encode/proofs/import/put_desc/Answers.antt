use Rattle.wasm_form.specs.declared.module.ExportDesc.TheVariants.{Func, Table, Space, Global}
use Rattle.spec_reading.proofs.of_spec_binary.Joined.{on_ok}
use Rattle.wasm_encode.proofs.Parts.{desc_written}
use Rattle.wasm_encode.proofs.import.put_desc.Goals as goal

pub returns-in-Func : goal.returns-in-Func
returns-in-Func c = on_ok c.put_numbered.result (desc_written (Func c.in-Func.number) c.args.desc _ _ c.in-Func.is) c.put_numbered.ensures

pub returns-in-Table : goal.returns-in-Table
returns-in-Table c = on_ok c.put_numbered-in-Table.result (desc_written (Table c.in-Table.number) c.args.desc _ _ c.in-Table.is) c.put_numbered-in-Table.ensures

pub returns-in-Space : goal.returns-in-Space
returns-in-Space c = on_ok c.put_numbered-in-Space.result (desc_written (Space c.in-Space.number) c.args.desc _ _ c.in-Space.is) c.put_numbered-in-Space.ensures

pub returns-in-Global : goal.returns-in-Global
returns-in-Global c = on_ok c.put_numbered-in-Global.result (desc_written (Global c.in-Global.number) c.args.desc _ _ c.in-Global.is) c.put_numbered-in-Global.ensures
