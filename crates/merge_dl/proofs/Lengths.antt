-- The length of a string, as code finds it: a cursor goes from the address on to the first zero byte. In a memory that ends before the last
-- address it never wraps.
use denote.Hole.Carrier.{out}
use Rattle.std.proofs.Common.{◌≡◌, ℕ, zero, suc, ◌+◌, ◌*◌, ◌^◌, ◌<◌, List, [], ◌∷◌, length, map, drop, nat_eq, slice_get, Option, Some, None, Bool, true, false, if◌then◌else◌, refl, sym, ap, ◌∙◌, subst, arith, mod-eq_of_lt}
use Rattle.std.proofs.Math.Dec.{leb-zero}
use Rattle.std.proofs.lemmas.Bool.Decides.{nat_tests}
use Rattle.std.proofs.lemmas.Option.{slice_get_within}
use Rattle.wasm_form.specs.declared.instr.BlockType.TheVariants.{Empty}
use Rattle.wasm_form.specs.declared.instr.Instr.{Instr, Plain, Index, Loop, Access, out-Instr}
use Rattle.wasm_form.specs.declared.instr.Instr.TheVariants.{outs-Loop}
use Rattle.wasm_form.specs.declared.module.Module.{Module}
use Rattle.wasm_form.specs.declared.runtime.Trap.TheVariants.{MemoryBounds}
use Rattle.wasm_form.specs.declared.runtime.Value.{Value}
use Rattle.wasm_form.specs.declared.runtime.Value.TheVariants.{Num}
use Rattle.spec_loading.specs.spec_binary.Options.{◌>>=◌}
use Rattle.spec_loading.specs.spec_runtime.Numerics.{W32, iadd, isub}
use Rattle.spec_loading.specs.spec_execution.Values.{low}
use Rattle.spec_loading.specs.spec_execution.Activations.{Activation}
use Rattle.spec_loading.specs.spec_execution.Runs.{Frame}
use Rattle.spec_loading.specs.spec_execution.OneModule.{Starting}
use Rattle.spec_loading.specs.LoaderAnswers.{before_zero, string_at}
use Rattle.merge_match.specs.Bounded.{IsBounded}
use Rattle.merge_match.proofs.Bounded.{bounded_ends}
use Rattle.merge_start.specs.Words.{Starts, number}
use Rattle.merge_pieces.specs.Running.{Reaches}
use Rattle.merge_start.specs.Running.{Changing, trapped_at}
use Rattle.merge_pieces.proofs.Running.{reaches_more, reaches_then, one_step}
use Rattle.merge_start.proofs.Reaching.{does_number, does_add}
use Rattle.merge_dl.specs.Words.{when, length_code}
use Rattle.merge_dl.proofs.Operators.{does_sub, does_load, does_load_past}
use Rattle.merge_dl.proofs.Sites.{site_depth, bottom, back_with, leaves_with, Leads, Site, spot, Outcome, Passes, Gives, Fails, Runs, Answers, inner, into_when, over_when, runs_then, runs_does, runs_fails, runs_get, runs_set}

-- ---- lists

-- what begins at a place
pub begins_there : (bytes : List ℕ) (i b : ℕ) (bs : List ℕ) → drop i bytes ≡ b ∷ bs → (slice_get bytes i ≡ Some b) × (drop (i + 1) bytes ≡ bs)
begins_there [] zero b bs e = absurd cc
begins_there [] (suc i) b bs e = absurd cc
begins_there (y ∷ ys) zero b bs e =
    let first : y ≡ b = cc in
    let rest : ys ≡ bs = cc in
    (ap Some first, rest)
begins_there (y ∷ ys) (suc i) b bs e =
    let later = begins_there ys i b bs e in
    (later.0, (let same : suc (i + 1) ≡ suc i + 1 = omega arith in subst (λ k. drop k (y ∷ ys) ≡ bs) same later.1))

pub nothing_there : (bytes : List ℕ) (i : ℕ) → drop i bytes ≡ [] → slice_get bytes i ≡ None
nothing_there [] i e = refl
nothing_there (y ∷ ys) zero e = absurd cc
nothing_there (y ∷ ys) (suc i) e = nothing_there ys i e

-- ---- numbers

pub none_more : (a : ℕ) → a + 0 ≡ a
none_more a = omega arith

one_more : (a : ℕ) → a + 1 < 2 ^ 32 → low W32 (iadd 32 a (low W32 1)) ≡ a + 1
one_more a small = (let same : iadd 32 a (low W32 1) ≡ a + 1 = mod-eq_of_lt small in ap (low W32) same ∙ same)

apart : (a r k : ℕ) → a + k < 2 ^ 32 → r ≡ a + k → isub 32 r a ≡ k
apart a r k small e = omega arith

nonzero : (k : ℕ) → nat_eq k 0 ≡ false → (j : ℕ) × (k ≡ suc j)
nonzero zero e = absurd cc
nonzero (suc j) e = (j, refl)

-- ---- the loop

abbrev onward : List Instr
onward = Index 0x20 1 ∷ number 1 ∷ Plain 0x6A ∷ Index 0x21 1 ∷ Index 0x0C 1 ∷ []

abbrev turn : List Instr
turn = Index 0x20 1 ∷ Access 0x2D 0 0 ∷ when onward ∷ []

abbrev looped : Site → Site
looped w = record w { below = []; more = []; levels = record { below = w.below; arity = 0; again = Some turn; after = w.more } ∷ w.levels }

-- the address, and the cursor
abbrev cursor : ℕ → ℕ → List Value
cursor p q = Num p ∷ Num q ∷ []

abbrev next : ℕ → ℕ
next q = iadd 32 (low W32 q) (low W32 1)

module _ {wasm : Module} (h : ℕ) (x : Starts) (c : Changing) (p : ℕ) where
  into_loop : (q : ℕ) (w : Site) → Reaches wasm (site_depth h w) 1 (spot c (cursor p q) w [] (Loop Empty (record { list = turn }) ∷ [])) (spot c (cursor p q) (looped w) [] turn)
  into_loop q w = one_step (omega arith) refl (rw (outs-Loop Empty (record { list = turn }), leb-zero (length w.below)) refl)

  reads : (q b : ℕ) (w : Site) → slice_get c.memory.bytes (low W32 q) ≡ Some b
      → Reaches wasm (site_depth h w) 2 (spot c (cursor p q) w [] turn) (spot c (cursor p q) w (Num b ∷ []) (when onward ∷ []))
  reads q b w e =
      let there : slice_get c.memory.bytes (low W32 q + 0) ≡ Some b = rw (none_more (low W32 q)) e in
      (runs_then {x = x} (Passes c (cursor p q) (Num b ∷ [])) (runs_get 1 (Num q) [] refl) (runs_does (cursor p q) (does_load q 0 b [] there))).runs (record w { more = when onward ∷ w.more })

  reads_past : (q : ℕ) (w : Site) → slice_get c.memory.bytes (low W32 q) ≡ None → Reaches wasm (site_depth h w) 2 (spot c (cursor p q) w [] turn) (trapped_at c MemoryBounds)
  reads_past q w e =
      let past : slice_get c.memory.bytes (low W32 q + 0) ≡ None = rw (none_more (low W32 q)) e in
      (runs_then {x = x} (Fails c MemoryBounds) (runs_get 1 (Num q) [] refl) (runs_fails (cursor p q) (does_load_past q 0 [] [] past))).runs (record w { more = when onward ∷ w.more })

  -- a zero byte ends the loop
  off_loop : (q : ℕ) (w : Site) → Reaches wasm (site_depth h w) 1 (spot c (cursor p q) (looped w) [] []) (spot c (cursor p q) w [] [])
  off_loop q w = one_step (omega arith) refl refl

  stops : (q b : ℕ) (w : Site) → low W32 b ≡ 0 → Reaches wasm (site_depth h w) 3 (spot c (cursor p q) (looped w) (Num b ∷ []) (when onward ∷ [])) (spot c (cursor p q) w [] [])
  stops q b w e = reaches_then (over_when h (cursor p q) (looped w) onward b e) (off_loop q w)

  -- after another one the cursor goes on
  steps_on : (q : ℕ) → Runs wasm x h 4 (Index 0x20 1 ∷ number 1 ∷ Plain 0x6A ∷ Index 0x21 1 ∷ []) c (cursor p q) [] (Passes c (cursor p (next q)) [])
  steps_on q =
      runs_then (Passes c (cursor p (next q)) []) (runs_get 1 (Num q) [] refl)
      (runs_then (Passes c (cursor p (next q)) []) (runs_does (cursor p q) (does_number 1 (Num q ∷ []) (omega arith)))
      (runs_then (Passes c (cursor p (next q)) []) (runs_does (cursor p q) (does_add q 1 []))
      (runs_set 1 (Num (next q)) (Num q) [] refl)))

  again : (q : ℕ) (w : Site) → Reaches wasm (site_depth h w) 1 (spot c (cursor p q) (inner (looped w)) [] (Index 0x0C 1 ∷ [])) (spot c (cursor p q) (looped w) [] turn)
  unfolding out-Instr out
  again q w = one_step (omega arith) refl refl

  goes_on : (q b k : ℕ) (w : Site) → low W32 b ≡ suc k
      → Reaches wasm (site_depth h w) 6 (spot c (cursor p q) (looped w) (Num b ∷ []) (when onward ∷ [])) (spot c (cursor p (next q)) (looped w) [] turn)
  goes_on q b k w e =
      reaches_then (into_when h (cursor p q) (looped w) onward b k e)
      (reaches_then ((steps_on q).runs (record (inner (looped w)) { more = Index 0x0C 1 ∷ [] })) (again (next q) w))

-- ---- the string

-- the loop comes to the end of the string, or to a trap
abbrev Turned : Module → ℕ → Changing → ℕ → ℕ → Site → ℕ → Option (List ℕ) → Type 0
Turned wasm h c p q w k None = Reaches wasm (site_depth h w) (8 * k + 2) (spot c (cursor p q) (looped w) [] turn) (trapped_at c MemoryBounds)
Turned wasm h c p q w k (Some s) =
    (r : ℕ) × (low W32 r ≡ low W32 q + length s)
    × Reaches wasm (site_depth h w) (8 * length s + 5) (spot c (cursor p q) (looped w) [] turn) (spot c (cursor p r) w [] [])

-- the function gives the length of the string, or traps where there is none
abbrev pub measured : Changing → Option (List ℕ) → Outcome
measured c None = Fails c MemoryBounds
measured c (Some s) = Gives c (Num (length s))

-- in how many steps, where so many bytes follow
abbrev pub measured_steps : ℕ → Option (List ℕ) → ℕ
measured_steps k None = 8 * k + 5
measured_steps k (Some s) = 8 * length s + 12

module _ (wasm : Module) (h : ℕ) (x : Starts) (c : Changing) (bounded : IsBounded c.memory) (p : ℕ) where
  later : (k q r : ℕ) (w : Site) (o : Option (List ℕ)) (b : ℕ) → low W32 r ≡ low W32 q + 1
      → Reaches wasm (site_depth h w) 8 (spot c (cursor p q) (looped w) [] turn) (spot c (cursor p r) (looped w) [] turn)
      → Turned wasm h c p r w k o → Turned wasm h c p q w (suc k) (o >>= λ rest. Some (b ∷ rest))
  later k q r w None b e a t = reaches_more {m = 8 + (8 * k + 2)} (omega arith) (reaches_then a t)
  later k q r w (Some s) b e a t =
      let end = t.1 in
      (t.0, omega arith, reaches_more {m = 8 + (8 * length s + 5)} (omega arith) (reaches_then a t.2))

  turns : (bytes : List ℕ) (q : ℕ) (w : Site) → drop (low W32 q) c.memory.bytes ≡ bytes → Turned wasm h c p q w (length bytes) (before_zero (map (low W32) bytes))
  turns [] q w e = reads_past h x c p q (looped w) (nothing_there c.memory.bytes (low W32 q) e)
  turns (b ∷ bytes) q w e = go (nat_eq (low W32 b) 0) refl (λ e'. turns bytes (next q) w e')
    where
      there : (slice_get c.memory.bytes (low W32 q) ≡ Some b) × (drop (low W32 q + 1) c.memory.bytes ≡ bytes)
      there = begins_there c.memory.bytes (low W32 q) b bytes e

      small : low W32 q + 1 < 2 ^ 32
      small = (let inside = slice_get_within c.memory.bytes (low W32 q) b there.0 in let ends = bounded_ends c.memory bounded in omega arith)

      moved : low W32 (next q) ≡ low W32 q + 1
      moved = one_more (low W32 q) small

      read : Reaches wasm (site_depth h w) 2 (spot c (cursor p q) (looped w) [] turn) (spot c (cursor p q) (looped w) (Num b ∷ []) (when onward ∷ []))
      read = reads h x c p q b (looped w) there.0

      go : (z : Bool) → nat_eq (low W32 b) 0 ≡ z → (drop (low W32 (next q)) c.memory.bytes ≡ bytes → Turned wasm h c p (next q) w (length bytes) (before_zero (map (low W32) bytes)))
          → Turned wasm h c p q w (suc (length bytes)) (if z then Some [] else (before_zero (map (low W32) bytes) >>= λ rest. Some (low W32 b ∷ rest)))
      go true z more = (let zero_byte : low W32 b ≡ 0 = grind (arith, nat_tests) in (q, omega arith, reaches_then read (stops h x c p q b w zero_byte)))
      go false z more =
          let some_byte = nonzero (low W32 b) z in
          later (length bytes) q (next q) w (before_zero (map (low W32) bytes)) (low W32 b) moved (reaches_then read (goes_on h x c p q b some_byte.0 w some_byte.1))
          (more (subst (λ k. drop k c.memory.bytes ≡ bytes) (sym moved) there.1))

  -- the cursor starts at the address
  starts : Runs wasm x h 2 (Index 0x20 0 ∷ Index 0x21 1 ∷ []) c (cursor p 0) [] (Passes c (cursor p p) [])
  starts = runs_then (Passes c (cursor p p) []) (runs_get 0 (Num p) [] refl) (runs_set 1 (Num p) (Num 0) [] refl)

  -- and the way that it went is the length
  ends : (r : ℕ) → Runs wasm x h 3 (Index 0x20 1 ∷ Index 0x20 0 ∷ Plain 0x6B ∷ []) c (cursor p r) [] (Passes c (cursor p r) (Num (isub 32 (low W32 r) (low W32 p)) ∷ []))
  ends r =
      runs_then (Passes c (cursor p r) (Num (isub 32 (low W32 r) (low W32 p)) ∷ [])) (runs_get 1 (Num r) [] refl)
      (runs_then (Passes c (cursor p r) (Num (isub 32 (low W32 r) (low W32 p)) ∷ [])) (runs_get 0 (Num p) (Num r ∷ []) refl)
      (runs_does (cursor p r) (does_sub r p [])))

  abbrev last : List Instr
  last = Index 0x20 1 ∷ Index 0x20 0 ∷ Plain 0x6B ∷ []

  abbrev string : Option (List ℕ)
  string = string_at c.memory (low W32 p)

  module _ (f : ℕ) (b : Activation) (gs : List (Frame Starting)) where
    abbrev w : Site
    w = bottom f b gs

    begins : Reaches wasm (site_depth h w) 3 (spot c (cursor p 0) w [] (Index 0x20 0 ∷ Index 0x21 1 ∷ Loop Empty (record { list = turn }) ∷ last))
        (spot c (cursor p p) (looped (record w { more = last })) [] turn)
    begins = reaches_then (starts.runs (record w { more = Loop Empty (record { list = turn }) ∷ last })) (into_loop h x c p p (record w { more = last }))

    measured_here : (k : ℕ) (o : Option (List ℕ)) → Turned wasm h c p p (record w { more = last }) k o
        → Leads wasm x h (measured_steps k o) (spot c (cursor p 0) w [] (Index 0x20 0 ∷ Index 0x21 1 ∷ Loop Empty (record { list = turn }) ∷ last)) w (measured c o)
    measured_here k None t = reaches_more {m = 3 + (8 * k + 2)} (omega arith) (reaches_then begins t)
    measured_here k (Some s) t =
        let end_at = t.1 in
        let room : low W32 p + length s < 2 ^ 32 = omega arith in
        let long : isub 32 (low W32 t.0) (low W32 p) ≡ length s = apart (low W32 p) (low W32 t.0) (length s) room t.1 in
        let end : Reaches wasm (site_depth h w) 4 (spot c (cursor p t.0) w [] last) (back_with c w (Num (length s))) =
        subst (λ k. Reaches wasm (site_depth h w) 4 (spot c (cursor p t.0) w [] last) (back_with c w (Num k))) long
        (reaches_then ((ends t.0).runs w) (leaves_with h (cursor p t.0) (Num (isub 32 (low W32 t.0) (low W32 p))) w)) in
        reaches_more {m = 3 + ((8 * length s + 5) + 4)} (omega arith) (reaches_then begins (reaches_then t.2 end))

  pub measures : Answers wasm x h (measured_steps (length (drop (low W32 p) c.memory.bytes)) string) length_code c (cursor p 0) (measured c string)
  unfolding length_code
  measures = record { runs = λ f b gs. measured_here f b gs (length (drop (low W32 p) c.memory.bytes)) string (turns (drop (low W32 p) c.memory.bytes) p (record (bottom f b gs) { more = last }) refl) }
