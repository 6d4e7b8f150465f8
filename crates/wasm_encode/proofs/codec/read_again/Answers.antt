use Rattle.std.proofs.Common.{◌≡◌, ℕ, List, Ok, Err, refl}
use Rattle.std.proofs.lemmas.List.Elements.{All-weaker}
use Rattle.wasm_form.specs.declared.module.Module.{Module}
use Rattle.spec_reading.specs.spec_binary.DecodeAnswers.{DecodeAnswer, spelled}
use Rattle.spec_reading.specs.spec_binary.Modules.{SpellsModule}
use Rattle.spec_reading.specs.spec_binary.WellFormed.{IsFormedCode, IsWellFormed}
use Rattle.spec_reading.specs.spec_binary.BodyLimits.{IsWithinLimits}
use Rattle.spec_reading.specs.spec_binary.declared.fault.DecodeFault.{DecodeFault}
use Rattle.spec_reading.specs.spec_binary.declared.fault.DecodeFault.TheVariants as faults
use Rattle.wasm_decode.specs.Decoded.{Yields}
use Rattle.wasm_encode.proofs.codec.read_again.Goals as goal

-- the bytes of a well formed module are answered by the module
answered : (m : Module) (bytes : List ℕ) → IsWellFormed m → SpellsModule m bytes → DecodeAnswer bytes (Ok m)
answered m bytes formed s = spelled s (All-weaker IsFormedCode IsWithinLimits (λ c h. h.limits) m.codes formed.codes.1) formed.counts

-- what is read in place of a module is the module
same : (m read : Module) → Yields (Ok m) (Ok read) → read ≡ m
same m read h = cc

-- no fault but want of memory comes in place of a module
out_of_memory : (m : Module) (e : DecodeFault) → Yields (Ok m) (Err e) → e ≡ faults.Memory
out_of_memory m (faults.Malformed section) h = absurd cc
out_of_memory m faults.Counts h = absurd cc
out_of_memory m (faults.TooDeep function) h = absurd cc
out_of_memory m (faults.TooManyLocals function) h = absurd cc
out_of_memory m faults.Memory h = refl

pub returns-in-Ok : goal.returns-in-Ok
returns-in-Ok c = same c.args.m.now c.in-Ok.read (c.in-Ok.ensures.only (Ok c.args.m.now) (answered c.args.m.now c.args.bytes.now c.requires.formed c.requires.spelled))

pub unreachable-requires : goal.unreachable-requires
unreachable-requires c =
    let e = out_of_memory c.args.m.now c.in-Err-Malformed.field-0 (c.in-Err-Malformed.ensures.only (Ok c.args.m.now) (answered c.args.m.now c.args.bytes.now c.requires.formed c.requires.spelled)) in
    let f = c.in-Err-Malformed.field-0-is in
    absurd cc

pub unreachable-requires-in-Err-Counts : goal.unreachable-requires-in-Err-Counts
unreachable-requires-in-Err-Counts c =
    let e = out_of_memory c.args.m.now c.in-Err-Counts.field-0 (c.in-Err-Counts.ensures.only (Ok c.args.m.now) (answered c.args.m.now c.args.bytes.now c.requires.formed c.requires.spelled)) in
    let f = c.in-Err-Counts.field-0-is in
    absurd cc

pub unreachable-requires-in-Err-TooDeep : goal.unreachable-requires-in-Err-TooDeep
unreachable-requires-in-Err-TooDeep c =
    let e = out_of_memory c.args.m.now c.in-Err-TooDeep.field-0 (c.in-Err-TooDeep.ensures.only (Ok c.args.m.now) (answered c.args.m.now c.args.bytes.now c.requires.formed c.requires.spelled)) in
    let f = c.in-Err-TooDeep.field-0-is in
    absurd cc

pub unreachable-requires-in-Err-TooManyLocals : goal.unreachable-requires-in-Err-TooManyLocals
unreachable-requires-in-Err-TooManyLocals c =
    let e = out_of_memory c.args.m.now c.in-Err-TooManyLocals.field-0 (c.in-Err-TooManyLocals.ensures.only (Ok c.args.m.now) (answered c.args.m.now c.args.bytes.now c.requires.formed c.requires.spelled)) in
    let f = c.in-Err-TooManyLocals.field-0-is in
    absurd cc
