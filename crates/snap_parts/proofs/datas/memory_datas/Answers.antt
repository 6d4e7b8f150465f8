use Rattle.std.proofs.Common.{ℕ, List, ◌++◌, length, map, subst, ap, ap₂, ◌∙◌, arith}
use Rattle.std.proofs.lemmas.List.{length-map}
use Rattle.spec_loading.specs.wasm_form.declared.module.Data.{Data}
use Rattle.snap_module.specs.Held.{memory_data}
use Rattle.snap_parts.specs.declared.pieces.Piece.{Piece}
use Rattle.snap_parts.specs.Found.{cut}
use Rattle.spec_snapshots.specs.Stretches.{IsSparse}
use Rattle.snap_parts.proofs.Founds.{found_all}
use Rattle.snap_parts.proofs.datas.memory_datas.Goals as goal

pub returns-clause-written : goal.returns-clause-written
returns-clause-written c =
    let bytes = c.args.memory.now.bytes in
    record {
      stretches = map (cut bytes) c.in_ok-pieces.pieces.items;
      sparse = subst (λ (k : ℕ). IsSparse 0 k bytes (map (cut bytes) c.in_ok-pieces.pieces.items)) c.memory_gap-gap.ensures.gap
          (found_all 0 c.memory_gap-gap.result bytes c.in_ok-pieces.pieces.items c.in_ok-pieces.ensures.found);
      put = c.in_ok-put_memory.ensures
          ∙ ap₂ (λ (l : List Data) (ps : List Piece). l ++ map memory_data (map (cut bytes) ps)) c.new-list.ensures.items c.deref.ensures.value;
    }

pub returns-clause-few : goal.returns-clause-few
returns-clause-few c =
    let alone = returns-clause-written c in
    let most = c.written_contents_are_one.ensures.few c.args.memory.now alone.stretches alone.sparse in
    let many = length-map alone.stretches memory_data in
    let same = ap length alone.put in
    omega arith
