-- What a reader returned stands for what reading from left to right finds, unless memory ran out.
-- Serves the contracts of this crate, which follow Steps of `spec_reading`.
use Rattle.std.specs.Prelude.{◌≡◌, Result, Ok, Err}
use Rattle.spec_reading.specs.Steps as steps
use Rattle.wasm_read.specs.declared.broken.Break.{Break}
use Rattle.wasm_read.specs.declared.broken.Break.TheVariants as breaks

-- reading ends so, or memory ran out
abbrev pub Fails : {Y : Type 0} → Break → Result Y steps.Break → Type 0
Fails breaks.Broken read = read ≡ Err steps.Broken
Fails breaks.TooDeep read = read ≡ Err steps.TooDeep
Fails breaks.TooManyLocals read = read ≡ Err steps.TooManyLocals
Fails breaks.Memory read = Unit {0}

-- what was returned, seen by view, is what reading gives, unless memory ran out
abbrev pub Gives : {X Y : Type 0} → (X → Y) → Result X Break → Result Y steps.Break → Type 0
Gives view (Ok x) read = read ≡ Ok (view x)
Gives view (Err e) read = Fails e read
