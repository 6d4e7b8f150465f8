-- The program of a board that an answer is recorded for.
use Rattle.std.proofs.Common.{◌≡◌, ℕ, List, get_or, slice_get, slice_set, Some, Result, Ok, Err, OnOk, OnErr, refl, sym, ap, ◌∙◌, subst}
use Rattle.std.proofs.lemmas.Option.{get_or_from_slice_get}
use Rattle.spec_loading.specs.wasm_form.declared.memory.Memory.{Memory}
use Rattle.spec_loading.specs.wasm_form.declared.runtime.Answer.{Answer}
use Rattle.spec_loading.specs.spec_runtime.Courses.{with_answer, as_lost}
use Rattle.wasm_machine.specs.Steps.{Awaits}
use Rattle.dyl_store.specs.Stores.{StoreRun, set_course}
use Rattle.slice_board.specs.Taken.{Answers}
use Rattle.slice_board.specs.declared.board.Seat.{Seat}

module _ (seats : List Seat) (p : ℕ) (a : Answer) (s : Seat) (is : s ≡ get_or seats p s) (awaited : (seat : Seat) × (slice_get seats p ≡ Some seat) × Awaits (set_course seat.store.linked) seat.store.run a) where
  same : s ≡ awaited.0
  same = is ∙ get_or_from_slice_get seats p awaited.0 s awaited.1

  there : slice_get seats p ≡ Some s
  there = awaited.1 ∙ ap Some (sym same)

  pub awaits : Awaits (set_course s.store.linked) s.store.run a
  awaits = subst (λ (t : Seat). Awaits (set_course t.store.linked) t.store.run a) (sym same) awaited.2

  pub answers : (new : StoreRun) (result : Result (Unit {0}) Memory) → OnOk result (new.run ≡ with_answer s.store.run a) → OnErr result (new.run ≡ as_lost s.store.run) → new.linked ≡ s.store.linked
      → Answers p a result seats (slice_set seats p (record s { store = new }))
  answers new (Ok done) recorded lost linked = record { old = s; there = there; new = record s { store = new }; set = refl; linked = linked; most = refl; comes = recorded }
  answers new (Err why) recorded lost linked = record { old = s; there = there; new = record s { store = new }; set = refl; linked = linked; most = refl; comes = lost }
