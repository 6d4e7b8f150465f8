-- The code of the tasks of opening, by lists of members.
use Rattle.std.proofs.Common.{◌≡◌, ℕ, ◌+◌, ◌-◌, List, [], ◌∷◌, ◌++◌, Some, refl, sym, ap, ap₂, ◌∙◌, append_assoc}
use Rattle.wasm_form.specs.declared.instr.Instr.{Instr, Index}
use Rattle.spec_loading.specs.spec_linking.LinkedSets.{LinkedSet}
use Rattle.spec_loading.specs.spec_linking.Orders.{closure, post_order}
use Rattle.spec_loading.specs.spec_linking.Links.{set_entry}
use Rattle.spec_loading.specs.declared.task.Phase.{Phase}
use Rattle.spec_loading.specs.declared.task.Task.{Task}
use Rattle.spec_loading.specs.declared.task.Phase.TheVariants.{Place, Start, Relocate, Construct}
use Rattle.spec_loading.specs.Phases.{stage_of, tasks_of, opening_tasks}
use Rattle.merge_match.specs.Renumbering.{Numbers}
use Rattle.merge_pieces.specs.Opcodes as op
use Rattle.merge_start.specs.Words.{Starts, number, tasks_code, member_call, entry_code, open_code}
use Rattle.merge_start.specs.declared.numbers.StartNumbers.{StartNumbers}
use Rattle.merge_start.specs.Listed.{AreListed, phase_calls, opening_with}

tasks_append : (x : Starts) (ts us : List Task) → tasks_code x (ts ++ us) ≡ tasks_code x ts ++ tasks_code x us
tasks_append x [] us = refl
tasks_append x (t ∷ ts) us = ap (λ l. Index op.call (x.phase t.member t.phase) ∷ l) (tasks_append x ts us)

module _ (L : LinkedSet) (s : StartNumbers) (n : Numbers) (x : Starts) (listed : AreListed L s n x) where
  calls_are : (p : Phase) (ms : List ℕ) → tasks_code x (tasks_of p ms) ≡ phase_calls s (stage_of p - 1) ms
  calls_are p [] = refl
  calls_are p (m ∷ ms) = ap₂ (λ k l. Index op.call k ∷ l) (listed.phases m p) (calls_are p ms)

  joined : (a b c d e : List Instr) → (a ++ (b ++ (c ++ d))) ++ e ≡ a ++ (b ++ (c ++ (d ++ e)))
  joined a b c d e =
      append_assoc a (b ++ (c ++ d)) e ∙ ap (λ l. a ++ l) (append_assoc b (c ++ d) e ∙ ap (λ l. b ++ l) (append_assoc c d e))

  parts : (p : Phase) (ms : List ℕ) {a b : List Instr} → a ≡ b → tasks_code x (tasks_of p ms) ++ a ≡ phase_calls s (stage_of p - 1) ms ++ b
  parts p ms e = ap₂ (λ k l. k ++ l) (calls_are p ms) e

  -- the code of a frame of opening
  opening_is : (breadth post : List ℕ) (last : Instr) → tasks_code x (opening_tasks breadth post) ++ last ∷ [] ≡ opening_with s breadth post last
  opening_is breadth post last =
      let start = tasks_of Start breadth in
      let relocate = tasks_of Relocate breadth in
      let construct = tasks_of Construct post in
      ap (λ l. l ++ last ∷ [])
      (tasks_append x (tasks_of Place breadth) (start ++ (relocate ++ construct))
      ∙ ap (λ l. tasks_code x (tasks_of Place breadth) ++ l)
      (tasks_append x start (relocate ++ construct) ∙ ap (λ l. tasks_code x start ++ l) (tasks_append x relocate construct)))
      ∙ joined (tasks_code x (tasks_of Place breadth)) (tasks_code x start) (tasks_code x relocate) (tasks_code x construct) (last ∷ [])
      ∙ parts Place breadth (parts Start breadth (parts Relocate breadth (parts Construct post refl)))

  pub entry_is : (startup post : List ℕ) → startup ≡ L.set.startup → post ≡ post_order L.set 0 → (f : ℕ) → set_entry L.set.members ≡ Some f
      → opening_with s startup post (Index op.call s.entry) ≡ entry_code L n x
  entry_is startup post p q f e =
      let last : Index op.call s.entry ∷ [] ≡ member_call n 0 (set_entry L.set.members) =
      ap (λ k. Index op.call k ∷ []) (sym (listed.entry f e)) ∙ ap (λ o. member_call n 0 o) (sym e) in
      rw (p, q)
      (sym (opening_is L.set.startup (post_order L.set 0) (Index op.call s.entry))
      ∙ ap (λ l. tasks_code x (opening_tasks L.set.startup (post_order L.set 0)) ++ l) last)

  pub open_is : (m : ℕ) (closed post : List ℕ) → closed ≡ closure L.set m → post ≡ post_order L.set m
      → opening_with s closed post (number (m + 1)) ≡ open_code L n x m
  open_is m closed post p q = rw (p, q) (sym (opening_is (closure L.set m) (post_order L.set m) (number (m + 1))))
