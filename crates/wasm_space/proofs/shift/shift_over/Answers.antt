use Rattle.std.proofs.Common.{◌≡◌, ◌∙◌, ap, length, take, drop, arith}
use Rattle.std.proofs.lemmas.List.{length-take-le, length-drop}
use Rattle.spec_runtime.specs.Memories.{overwritten}
use Rattle.wasm_space.proofs.Overwriting.{put_is, part_is}
use Rattle.wasm_space.proofs.Parts.{overwritten_is}
use Rattle.wasm_space.proofs.shift.shift_over.Goals as goal

pub returns : goal.returns
returns g c =
    let bytes = c.args.bytes.now in
    let new = c.copy_from_slice-2.new.self in
    let read : new ≡ take c.args.n (drop c.args.from bytes) = c.copy_from_slice-2.ensures.after ∙ c.copy_from_slice.ensures.after ∙ part_is bytes c.args.from c.args.n in
    let size : length new ≡ c.args.n = rw read (length-take-le c.args.n (drop c.args.from bytes) (rw length-drop (omega (arith, c.requires.from)))) in
    put_is bytes new c.args.to c.args.n size ∙ overwritten_is bytes new c.args.to c.args.n size ∙ ap (overwritten bytes c.args.to) read
