use Rattle.std.proofs.Common.{◌≡◌, ◌-◌}
use Rattle.spec_reading.specs.Bodies.{usual_room, bodies_at}
use Rattle.wasm_read.proofs.Loops.{with_front}
use Rattle.wasm_decode.proofs.body.read_bodies.Given as goal

abbrev pub invariant-loop-function : goal.invariant-loop-function
invariant-loop-function l = with_front l.codes.items (bodies_at usual_room l.section (l.count - l.function) l.function l.rest) ≡ bodies_at usual_room l.section l.count 0 l.bytes
