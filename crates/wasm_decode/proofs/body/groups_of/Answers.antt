use Rattle.std.proofs.Common.{arith}
use Rattle.std.proofs.lemmas.Result.{err_from_is_err_and}
use Rattle.spec_reading.specs.Bodies.{groups_at}
use Rattle.wasm_decode.proofs.Bodies.{groups_begin, groups_go_on, count_fails, limit_passed, type_fails, groups_end}
use Rattle.wasm_decode.proofs.body.groups_of.Goals as goal

pub loop-init : goal.loop-init
loop-init c = record { read = rw c.new-groups.ensures.items (groups_begin 50000 c.args.count c.args.bytes.now); within = omega arith }

pub returns-in_err-locals : goal.returns-in_err-locals
returns-in_err-locals c =
    let p = err_from_is_err_and c.from_residual.result c.from_residual.ensures.1 in
    rw (p.1, p.2) (count_fails 50000 c.in_err-locals.field-0.0 c.loop.groups.items c.args.count c.loop.counter c.loop.so_far c.loop.rest.now (groups_at 50000 c.args.count 0 c.args.bytes.now) c.loop-test.true c.in_err-locals.ensures.reads c.loop.invariant.read)

pub returns-then-locals-so_far : goal.returns-then-locals-so_far
returns-then-locals-so_far c = limit_passed 50000 c.loop.groups.items c.args.count c.loop.counter c.loop.so_far c.loop.rest.now c.in_ok-locals.locals c.in_ok-locals.after.now (groups_at 50000 c.args.count 0 c.args.bytes.now) c.loop-test.true c.in_ok-locals.ensures.reads (omega arith) c.loop.invariant.read

pub returns-in_err-ty : goal.returns-in_err-ty
returns-in_err-ty c =
    let p = err_from_is_err_and c.from_residual-in_err-ty.result c.from_residual-in_err-ty.ensures.1 in
    rw (p.1, p.2) (type_fails 50000 c.in_err-ty.field-0.0 c.loop.groups.items c.args.count c.loop.counter c.loop.so_far c.loop.rest.now c.in_ok-locals.locals c.in_ok-locals.after.now (groups_at 50000 c.args.count 0 c.args.bytes.now) c.loop-test.true c.in_ok-locals.ensures.reads (omega arith) c.in_err-ty.ensures.reads c.loop.invariant.read)

pub loop-preserved : goal.loop-preserved
loop-preserved c = record {
  read = rw c.in_ok-push.ensures.items (groups_go_on 50000 c.loop.groups.items c.args.count c.loop.counter c.loop.so_far c.loop.rest.now c.in_ok-locals.locals c.in_ok-locals.after.now c.in_ok-ty.ty c.in_ok-ty.next.now (groups_at 50000 c.args.count 0 c.args.bytes.now) c.loop-test.true c.in_ok-locals.ensures.reads (omega arith) c.in_ok-ty.ensures.reads c.loop.invariant.read);
  within = omega arith;
}

pub returns : goal.returns
returns c = groups_end 50000 c.loop.groups.items c.args.count c.loop.counter c.loop.so_far c.loop.rest.now (groups_at 50000 c.args.count 0 c.args.bytes.now) c.loop-test.false c.loop.invariant.read
