-- Bytes spell at most one module: where there is room for the bodies of two, reading finds both.
use Rattle.std.proofs.Common.{ℕ, ◌+◌, ◌≤◌, List, [], ◌∷◌, sym, ap, ◌∙◌, arith}
use Rattle.std.specs.List.{AllByRecursion}
use Rattle.std.proofs.lemmas.List.Elements.{All-from_recursion}
use Rattle.spec_binary.specs.wasm_form.declared.module.Code.{Code}
use Rattle.spec_binary.specs.wasm_form.declared.module.Module.{Module}
use Rattle.spec_binary.specs.BodyLimits.{local_count}
use Rattle.spec_binary.specs.Trees.{nesting_all}
use Rattle.spec_binary.specs.Sections.{Progress}
use Rattle.spec_binary.specs.declared.fault.DecodeFault.{DecodeFault}
use Rattle.spec_reading.specs.Bodies.{Room}
use Rattle.spec_reading.specs.Laws.{OneModule}
use Rattle.spec_reading.proofs.Steps.{ok_is}
use Rattle.spec_reading.proofs.Bodies.{Keeps}
use Rattle.spec_reading.proofs.OneAnswer.{module_read}

-- the locals and the nested blocks of bodies, all in all
abbrev all_locals : List Code → ℕ
all_locals [] = 0
all_locals (c ∷ cs) = local_count c.locals + all_locals cs

abbrev all_nested : List Code → ℕ
all_nested [] = 0
all_nested (c ∷ cs) = nesting_all c.body.list + all_nested cs

keep_room : (room : Room) (cs : List Code) → all_locals cs ≤ room.locals → all_nested cs ≤ room.nested → AllByRecursion (Keeps room) cs
keep_room room [] l n = tt
keep_room room (c ∷ cs) l n = (record { locals = omega arith; nested = omega arith }, keep_room room cs (omega arith) (omega arith))

-- room for the bodies of both
abbrev room_for : Module → Module → Room
room_for one other = record { locals = all_locals one.codes + all_locals other.codes; nested = all_nested one.codes + all_nested other.codes }

pub one_module : OneModule
one_module one other bytes s t =
    let room : Room = room_for one other in
    let left = module_read room one bytes s (All-from_recursion (Keeps room) one.codes (keep_room room one.codes (omega arith) (omega arith))) in
    let right = module_read room other bytes t (All-from_recursion (Keeps room) other.codes (keep_room room other.codes (omega arith) (omega arith))) in
    let same = ok_is DecodeFault s.end t.end (sym left ∙ right) in
    sym s.fields ∙ ap (λ (p : Progress). p.fields) same ∙ t.fields
