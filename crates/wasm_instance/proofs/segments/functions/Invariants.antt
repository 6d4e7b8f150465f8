use Rattle.std.proofs.Common.{◌≡◌, ◌++◌, drop, map, Some}
use Rattle.wasm_instance.specs.Imports.{function_after}
use Rattle.wasm_instance.proofs.segments.functions.Given as goal

abbrev pub invariant-loop-f : goal.invariant-loop-f
invariant-loop-f l = l.all.items ++ map (λ f. Some (function_after l.imported f)) (drop l.f-index l.numbers) ≡ map (λ f. Some (function_after l.imported f)) l.numbers
