-- The call of a function that searches for numbers.
use denote.Hole.Carrier.{out}
use Rattle.std.proofs.Common.{◌≡◌, ℕ, suc, ◌+◌, ◌*◌, ◌^◌, ◌<◌, List, [], ◌∷◌, length, nat_le, Option, Some, None, unwrap_or, option_map, true, refl, subst, arith, append-nil}
use Rattle.std.proofs.lemmas.Bool.Decides.{nat_tests}
use Rattle.wasm_form.specs.declared.instr.Instr.{Instr, Index, out-Instr}
use Rattle.wasm_form.specs.declared.module.Module.{Module}
use Rattle.wasm_form.specs.declared.runtime.Value.{Value}
use Rattle.wasm_form.specs.declared.runtime.Value.TheVariants.{Num}
use Rattle.spec_execution.specs.spec_runs.Systems.{Moving}
use Rattle.spec_execution.specs.spec_runtime.Memories.{MemoryInstance}
use Rattle.spec_execution.specs.Activations.{Level, Activation, with_values}
use Rattle.spec_execution.specs.Limits.{activations}
use Rattle.spec_execution.specs.Runs.{Frame}
use Rattle.spec_execution.specs.Runs as frames
use Rattle.spec_execution.specs.Instances.{ModuleParts}
use Rattle.spec_execution.specs.OneModule.{Starting, ModuleState}
use Rattle.merge_pieces.specs.Opcodes as op
use Rattle.merge_find.specs.Decisions.{Named, wide, return_code, search_code, strings}
use Rattle.merge_pieces.specs.Running.{Reaches}
use Rattle.merge_pieces.proofs.Running.{reaches_deeper, one_step}
use Rattle.merge_find.specs.Counted.{standing, Comes}
use Rattle.merge_find.specs.Finding.{first_named, search_steps, search_value, number_goal, number_code, numbered, AreWords, search_type, HasFunction, SearchFindsAny, SearchFinds}
use Rattle.merge_find.proofs.Steps.{within_then, spot, before, Steps, steps_wide}
use Rattle.merge_find.proofs.Names.{number_many, number_named, number_texts, number_apart, word_named}
use Rattle.merge_find.proofs.Finds.{searches_come, searches_come_soon}

-- a value was given to what called
abbrev back_with : ModuleParts → MemoryInstance → Activation → List (Frame Starting) → Value → ModuleState
back_with us memory b gs v = record { units = us; memory = memory; stack = frames.Active (with_values b (v ∷ b.values)) ∷ gs; status = Moving }

some_there : (vs : List Value) → nat_le 1 (suc (length vs)) ≡ true
some_there vs = grind (arith, nat_tests)

-- where code of a function stands that gives one number
abbrev inside : ℕ → List Value → List Value → List Instr → List Level → Activation
inside f ls below more levels = record { unit = 0; func = f; results = 1; locals = ls; values = below; rest = more; levels = levels }

module _ {wasm : Module} {us : ModuleParts} {memory : MemoryInstance} (f : ℕ) (ls : List Value) (b : Activation) (gs : List (Frame Starting)) where
  leaves_with : (v : Value) → Reaches wasm (length (activations gs) + 2) 1 (spot us memory ls (inside f ls [] [] []) (frames.Active b ∷ gs) (v ∷ []) []) (back_with us memory b gs v)
  leaves_with v = one_step (omega arith) refl refl

  module _ (below : List Value) (more : List Instr) (levels : List Level) where
    returns_with : (v : Value) → Reaches wasm (length (activations gs) + 2) 2 (spot us memory ls (inside f ls below more levels) (frames.Active b ∷ gs) (v ∷ []) return_code) (back_with us memory b gs v)
    unfolding out-Instr out
    returns_with v =
        within_then {u = spot us memory ls (inside f ls [] [] []) (frames.Active b ∷ gs) (v ∷ []) []} 1 2 (omega arith) (one_step (omega arith) refl (rw (some_there below) refl)) (leaves_with v)

    gives : (k : ℕ) → k < 2 ^ 64 → Reaches wasm (length (activations gs) + 2) 3 (spot us memory ls (inside f ls below more levels) (frames.Active b ∷ gs) [] (wide k ∷ return_code)) (back_with us memory b gs (Num k))
    gives k small =
        let steps : Steps wasm 1 (wide k ∷ []) us memory ls [] (Num k ∷ []) = steps_wide k [] small in
        within_then 2 3 (omega arith) (reaches_deeper (omega arith) (steps.runs (before return_code (inside f ls below more levels)) (frames.Active b ∷ gs))) (returns_with (Num k))

module _ (wasm : Module) (f : ℕ) (xs : List (List ℕ × ℕ)) (names : List Named)
    (has : HasFunction wasm f search_type (record { locals = []; body = record { list = search_code number_goal names } })) (words : AreWords xs)
    (us : ModuleParts) (memory : MemoryInstance) (p : ℕ) (s : List ℕ) (n : ℕ)
    (comes : Comes wasm n (search_code number_goal names) us memory (Num p ∷ Num (length s) ∷ []) (unwrap_or (option_map number_code (first_named xs s)) number_goal.missed)) where
  abbrev ls : List Value
  ls = Num p ∷ Num (length s) ∷ []

  module _ (b : Activation) (gs : List (Frame Starting)) where
    -- the code that is come to gives the number, wherever it stands
    ends : (o : Option ℕ) → first_named xs s ≡ o → (below : List Value) (more : List Instr) (levels : List Level)
        → Reaches wasm (length (activations gs) + 2) 3 (spot us memory ls (inside f ls below more levels) (frames.Active b ∷ gs) [] (unwrap_or (option_map number_code o) number_goal.missed))
        (back_with us memory b gs (Num (search_value o)))
    ends None e below more levels = gives f ls b gs below more levels 0 (omega arith)
    ends (Some k) e below more levels = (let small = word_named xs s k words e in gives f ls b gs below more levels (2 ^ 32 + k) (omega arith))

    body_within : Reaches wasm (length (activations gs) + 2) (n + 3) (spot us memory ls (inside f ls [] [] []) (frames.Active b ∷ gs) [] (search_code number_goal names))
        (back_with us memory b gs (Num (search_value (first_named xs s))))
    body_within =
        let r = comes.runs (inside f ls [] [] []) (frames.Active b ∷ gs) in
        within_then 3 (n + 3) (omega arith) (reaches_deeper (omega arith) r.3) (ends (first_named xs s) refl r.0 r.1 r.2)

  module _ (a : Activation) (under : List (Frame Starting)) where
    enters : Reaches wasm (length (activations under) + 2) 1 (standing us memory a under (Num (length s) ∷ Num p ∷ []) (Index op.call f ∷ []))
        (spot us memory ls (inside f ls [] [] []) (frames.Active (record a { unit = 0 }) ∷ under) [] (search_code number_goal names))
    unfolding out-Instr out
    enters = one_step (omega arith) refl (rw (has.target, has.code, append-nil (search_code number_goal names)) refl)

    call_within : Reaches wasm (length (activations under) + 2) (n + 4) (standing us memory a under (Num (length s) ∷ Num p ∷ []) (Index op.call f ∷ []))
        (standing us memory a under (Num (search_value (first_named xs s)) ∷ []) [])
    call_within = within_then (n + 3) (n + 4) (omega arith) enters (body_within (record a { unit = 0 }) under)

pub searches_find : SearchFinds
searches_find wasm f xs has words texts apart us memory p s lies =
    let ls : List Value = Num p ∷ Num (length s) ∷ [] in
    let comes = searches_come_soon wasm number_goal (numbered xs) (number_texts xs texts) (number_apart xs apart) us memory p s lies ls refl refl in
    let among = subst (λ m. Comes wasm (search_steps 8 m (length s)) (search_code number_goal (strings (numbered xs))) us memory ls (unwrap_or (first_named (numbered xs) s) number_goal.missed)) (number_many xs) comes in
    let found = subst (λ o. Comes wasm (search_steps 8 (length xs) (length s)) (search_code number_goal (strings (numbered xs))) us memory ls (unwrap_or o number_goal.missed)) (number_named xs s) among in
    record { runs = λ a under. call_within wasm f xs (strings (numbered xs)) has words us memory p s (search_steps 8 (length xs) (length s)) found a under }

pub searches_find_any : SearchFindsAny
searches_find_any wasm f xs has words us memory p s lies =
    let ls : List Value = Num p ∷ Num (length s) ∷ [] in
    let comes = searches_come wasm number_goal (numbered xs) us memory p s lies ls refl refl in
    let among = subst (λ m. Comes wasm (search_steps 32 m (length s)) (search_code number_goal (strings (numbered xs))) us memory ls (unwrap_or (first_named (numbered xs) s) number_goal.missed)) (number_many xs) comes in
    let found = subst (λ o. Comes wasm (search_steps 32 (length xs) (length s)) (search_code number_goal (strings (numbered xs))) us memory ls (unwrap_or o number_goal.missed)) (number_named xs s) among in
    record { runs = λ a under. call_within wasm f xs (strings (numbered xs)) has words us memory p s (search_steps 32 (length xs) (length s)) found a under }
