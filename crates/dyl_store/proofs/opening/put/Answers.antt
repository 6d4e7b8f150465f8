use Rattle.wasm_form.specs.declared.runtime.Trap.TheVariants.{MemoryBounds}
use Rattle.dyl_store.proofs.Opened.{put_so}
use Rattle.dyl_store.proofs.opening.put.Goals as goal

pub returns : goal.returns
returns c = (put_so MemoryBounds c.args.memory.now c.args.at c.args.bytes.now c.put.result c.put.new.self c.requires c.put.ensures).1
