use Rattle.std.proofs.Common.{◌∙◌, ap, List, ℕ}
use Rattle.std.specs.FinMap.{insert}
use Rattle.spec_reading.proofs.of_spec_binary.Joined.{on_ok}
use Rattle.dyl_outside.specs.MemFiles.{MemFilesState}
use Rattle.dyl_gen.specs.Generated.{further_name}
use Rattle.dyl_gen.proofs.files.add_further.Goals as goal

pub returns : goal.returns
returns c =
    let old : MemFilesState = c.args.files.now in
    on_ok c.add.result (λ e. record {
      bytes = c.in_ok-bytes.bytes.items;
      is = c.in_ok-bytes.ensures;
      state = e ∙ ap (λ (bytes : List ℕ). record old { files = insert old.files further_name bytes }) c.deref.ensures.value;
    }) c.add.ensures.ok
