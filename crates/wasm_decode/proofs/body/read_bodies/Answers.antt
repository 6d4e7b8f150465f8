use Rattle.spec_reading.specs.Bodies.{usual_room, bodies_at}
use Rattle.wasm_decode.proofs.Bodies.{bodies_begin, bodies_go_on, body_fails, bodies_end}
use Rattle.wasm_decode.proofs.body.read_bodies.Goals as goal

pub loop-function-init : goal.loop-function-init
loop-function-init c = rw c.requires (bodies_begin usual_room c.args.section c.args.count c.args.bytes.now)

pub returns-in-Err : goal.returns-in-Err
returns-in-Err c =
    rw c.fault_in_body.ensures (body_fails usual_room c.args.section c.in-Err.why c.loop-function.codes.items c.args.count c.loop-function.function c.loop-function.rest.now (bodies_at usual_room c.args.section c.args.count 0 c.args.bytes.now) c.loop-function-test.true c.in-Err.ensures c.loop-function.invariant)

pub loop-function-preserved : goal.loop-function-preserved
loop-function-preserved c =
    rw c.in_ok-push.ensures.items (bodies_go_on usual_room c.args.section c.loop-function.codes.items c.args.count c.loop-function.function c.loop-function.rest.now c.in-Ok.read.0 c.in-Ok.read.1.now (bodies_at usual_room c.args.section c.args.count 0 c.args.bytes.now) c.loop-function-test.true c.in-Ok.ensures c.loop-function.invariant)

pub returns : goal.returns
returns c = bodies_end usual_room c.args.section c.loop-function.codes.items c.args.count c.loop-function.function c.loop-function.rest.now (bodies_at usual_room c.args.section c.args.count 0 c.args.bytes.now) c.loop-function-test.false c.loop-function.invariant
