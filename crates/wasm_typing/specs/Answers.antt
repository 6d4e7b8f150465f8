-- What a checker answers.
-- Serves the contracts of this crate, which follow Typing of `spec_validation`.
use Rattle.std.specs.Prelude.{◌≡◌, Option, Some, None, Result, Ok, Err}
use Rattle.wasm_typing.specs.declared.fault.TypingFault.{TypingFault}
use Rattle.wasm_typing.specs.declared.fault.TypingFault.TheVariants.{Invalid}

-- the value that there is, and Invalid only where there is none; memory may be wanting at any time
abbrev pub Obtains : {A : Type 0} → Result A TypingFault → Option A → Type 0
Obtains (Ok x) found = found ≡ Some x
Obtains (Err e) found = e ≡ Invalid → found ≡ None

-- the same, where the value is left behind
abbrev pub Leaves : {A : Type 0} → Result Unit TypingFault → A → Option A → Type 0
Leaves (Ok x) new found = found ≡ Some new
Leaves (Err e) new found = e ≡ Invalid → found ≡ None
