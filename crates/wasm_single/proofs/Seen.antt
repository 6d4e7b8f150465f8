-- A step of the machine is one of the run, where each mark is seen as what is still to be called.
use Rattle.std.proofs.Common.{◌≡◌, ℕ, List, [], ◌∷◌, true}
use Rattle.std.specs.Option.{option_map}
use Rattle.wasm_form.specs.declared.module.Module.{Module}
use Rattle.spec_safety.specs.spec_execution.Activations.{move}
use Rattle.spec_safety.specs.spec_execution.Runs.{is_running, Frame, Active, Marked, Next}
use Rattle.spec_safety.specs.spec_execution.Instances.{module_view}
use Rattle.spec_safety.specs.spec_execution.OneModule.{Starting, ModuleState, module_next}
use Rattle.wasm_machine.specs.Machines.{next_of}
use Rattle.wasm_machine.specs.Marks.{marked_next}
use Rattle.wasm_machine.proofs.Marked.{marked_move}
use Rattle.wasm_single.specs.Cores.{seen}

-- what a step comes to, as the run sees it
abbrev pub seen_next : {Units : Type 0} → Starting → Next Units ℕ → Next Units Starting
seen_next starting = marked_next (λ tag. starting)

-- the step of the code on top
pub seen_step : (m : Module) (s : ModuleState) (starting : Starting) (frames : List (Frame ℕ)) → is_running frames ≡ true → module_next m s (seen starting frames) ≡ option_map (seen_next starting) (next_of (module_view m) s.units s.memory frames)
seen_step m s starting [] code = absurd cc
seen_step m s starting (Active a ∷ frames) code = marked_move (module_view m) s.units s.memory (λ tag. starting) frames (move ((module_view m).declared a.unit) a)
seen_step m s starting (Marked tag ∷ frames) code = absurd cc
