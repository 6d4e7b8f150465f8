-- How runs of pieces of code are put together in a function that gives a number: a piece is gone through, or the function returns, traps, or
-- comes to the call of what opens a member.
use denote.Hole.Carrier.{out}
use Rattle.std.proofs.Common.{◌≡◌, ◌+◌, ◌≤◌, ℕ, suc, List, [], ◌∷◌, ◌++◌, length, nat_le, slice_get, slice_set, Some, None, true, refl, append_assoc, append-nil, arith}
use Rattle.std.proofs.Math.Dec.{leb-zero}
use Rattle.std.proofs.lemmas.Bool.Decides.{nat_tests}
use Rattle.wasm_form.specs.declared.instr.BlockType.TheVariants.{Empty}
use Rattle.wasm_form.specs.declared.instr.Instr.{Instr, Plain, Index, out-Instr}
use Rattle.wasm_form.specs.declared.instr.Instr.TheVariants.{outs-If}
use Rattle.wasm_form.specs.declared.module.Module.{Module}
use Rattle.wasm_form.specs.declared.runtime.Trap.{Trap}
use Rattle.wasm_form.specs.declared.runtime.Value.{Value}
use Rattle.wasm_form.specs.declared.runtime.Value.TheVariants.{Num}
use Rattle.spec_loading.specs.spec_runs.Systems.{Moving}
use Rattle.spec_loading.specs.spec_runtime.Numerics.{W32}
use Rattle.spec_loading.specs.spec_execution.Values.{low}
use Rattle.spec_loading.specs.spec_execution.Activations.{Level, Activation, with_values}
use Rattle.spec_loading.specs.spec_execution.Limits.{activations}
use Rattle.spec_loading.specs.spec_execution.Runs.{Frame}
use Rattle.spec_loading.specs.spec_execution.Runs as frames
use Rattle.spec_loading.specs.spec_execution.OneModule.{Starting, ModuleState}
use Rattle.merge_start.specs.Words.{Starts}
use Rattle.merge_pieces.specs.Running.{Reaches}
use Rattle.merge_start.specs.Running.{Changing, Around, at, trapped_at, Does}
use Rattle.merge_start.specs.Points.{HandsOn, HandsOnAfter}
use Rattle.merge_start.specs.Laws.{calls_opening}
use Rattle.merge_pieces.proofs.Running.{reaches_more, reaches_then, one_step}
use Rattle.merge_dl.specs.Words.{when}

-- ---- where code stands, and what comes of it

-- Where a piece of code stands: its function, the values below its own, the code that follows in the innermost block, the open blocks, and
-- what called, with the frames under that.
pub record Site : Type 0 where
  pub func : ℕ
  pub below : List Value
  pub more : List Instr
  pub levels : List Level
  pub caller : Activation
  pub under : List (Frame Starting)

abbrev pub around : Site → List Value → Around
around w ls = record {
  func = w.func;
  results = 1;
  locals = ls;
  below = w.below;
  more = w.more;
  levels = w.levels;
  under = frames.Active w.caller ∷ w.under;
}

-- it stands before this code, with these locals, and these values on top
abbrev pub spot : Changing → List Value → Site → List Value → List Instr → ModuleState
spot c ls w vs code = at c (around w ls) vs code

-- a number was returned to what called
abbrev pub back_with : Changing → Site → Value → ModuleState
back_with c w v = record { units = c.units; memory = c.memory; stack = frames.Active (with_values w.caller (v ∷ w.caller.values)) ∷ w.under; status = Moving }

pub data Outcome : Type 0 where
  -- the code is gone through, with these locals, and these values on top
  Passes : Changing → List Value → List Value → Outcome
  -- the function returns a number, or traps, or is about to call what opens a member
  Gives : Changing → Value → Outcome
  Fails : Changing → Trap → Outcome
  Opens : Changing → ℕ → Outcome
  -- the same, and then some code is gone through before the handle is returned
  OpensThen : List Instr → Changing → ℕ → Outcome

abbrev pub IsEnd : Outcome → Type 0
IsEnd (Passes d ms ws) = ⊥
IsEnd (Gives d v) = Unit {0}
IsEnd (Fails d why) = Unit {0}
IsEnd (Opens d m) = Unit {0}
IsEnd (OpensThen code d m) = Unit {0}

-- how deep code may go
abbrev pub site_depth : ℕ → Site → ℕ
site_depth h w = length (activations (frames.Active w.caller ∷ w.under)) + suc h

-- at most so many silent steps lead from a state to an outcome
abbrev pub Leads : Module → Starts → ℕ → ℕ → ModuleState → Site → Outcome → Type 0
Leads wasm x h n t w (Passes d ms ws) = Reaches wasm (site_depth h w) n t (spot d ms w ws [])
Leads wasm x h n t w (Gives d v) = Reaches wasm (site_depth h w) n t (back_with d w v)
Leads wasm x h n t w (Fails d why) = Reaches wasm (site_depth h w) n t (trapped_at d why)
Leads wasm x h n t w (Opens d m) =
    (b : Activation) × HandsOn b × Reaches wasm (site_depth h w) n t (calls_opening x m b (frames.Active w.caller ∷ w.under) d.units d.memory)
Leads wasm x h n t w (OpensThen code d m) =
    (b : Activation) × HandsOnAfter code b × Reaches wasm (site_depth h w) n t (calls_opening x m b (frames.Active w.caller ∷ w.under) d.units d.memory)

-- wherever this code stands
pub record Runs (wasm : Module) (x : Starts) (h n : ℕ) (code : List Instr) (c : Changing) (ls vs : List Value) (o : Outcome) : Type 0 where
  pub runs : (w : Site) → Leads wasm x h n (spot c ls w vs code) w o

-- where the body of a function stands
abbrev pub bottom : ℕ → Activation → List (Frame Starting) → Site
bottom f b gs = record { func = f; below = []; more = []; levels = []; caller = b; under = gs }

-- as the body of a function, whose end returns what is on top
pub record Answers (wasm : Module) (x : Starts) (h n : ℕ) (code : List Instr) (c : Changing) (ls : List Value) (o : Outcome) : Type 0 where
  pub runs : (f : ℕ) (b : Activation) (gs : List (Frame Starting)) → Leads wasm x h n (spot c ls (bottom f b gs) [] code) (bottom f b gs) o

-- inside a block without values of its own
abbrev pub block_level : Site → Level
block_level w = record { below = w.below; arity = 0; again = None; after = w.more }

abbrev pub inner : Site → Site
inner w = record w { below = []; more = []; levels = block_level w ∷ w.levels }

-- ---- steps

some_there : (vs : List Value) → nat_le 1 (suc (length vs)) ≡ true
some_there vs = grind (arith, nat_tests)

module _ {wasm : Module} (h : ℕ) where
  pub off_inner : {c : Changing} (ls : List Value) (w : Site) → Reaches wasm (site_depth h w) 1 (spot c ls (inner w) [] []) (spot c ls w [] [])
  off_inner ls w = one_step (omega arith) refl refl

  pub into_when : {c : Changing} (ls : List Value) (w : Site) (p : List Instr) (a k : ℕ) → low W32 a ≡ suc k
      → Reaches wasm (site_depth h w) 1 (spot c ls w (Num a ∷ []) (when p ∷ [])) (spot c ls (inner w) [] p)
  into_when {c} ls w p a k e = rw (append-nil p) (one_step (omega arith) refl (rw (outs-If Empty (record { list = p }) None, e, leb-zero (length w.below)) refl))

  pub over_when : {c : Changing} (ls : List Value) (w : Site) (p : List Instr) (a : ℕ) → low W32 a ≡ 0
      → Reaches wasm (site_depth h w) 2 (spot c ls w (Num a ∷ []) (when p ∷ [])) (spot c ls w [] [])
  over_when {c} ls w p a e =
      reaches_then (one_step (omega arith) refl (rw (outs-If Empty (record { list = p }) None, e, leb-zero (length w.below)) refl)) (off_inner ls w)

  -- the body is done with a number on top, and this is returned
  pub leaves_with : {c : Changing} (ls : List Value) (v : Value) (w : Site)
      → Reaches wasm (site_depth h w) 1 (spot c ls (record w { below = []; more = []; levels = [] }) (v ∷ []) []) (back_with c w v)
  leaves_with ls v w = one_step (omega arith) refl refl

  pub returns_with : {c : Changing} (ls : List Value) (v : Value) (w : Site)
      → Reaches wasm (site_depth h w) 2 (spot c ls w (v ∷ []) (Plain 0x0F ∷ [])) (back_with c w v)
  unfolding out-Instr out
  returns_with {c} ls v w =
      reaches_then {u = spot c ls (record w { below = []; more = []; levels = [] }) (v ∷ []) []} (one_step (omega arith) refl (rw (some_there w.below) refl)) (leaves_with ls v w)

-- ---- outcomes

module _ {wasm : Module} (h : ℕ) (x : Starts) where
  pub leads_after : {a' : ℕ} (b' : ℕ) {t u : ModuleState} (w : Site) (o : Outcome) → Reaches wasm (site_depth h w) a' t u → Leads wasm x h b' u w o → Leads wasm x h (a' + b') t w o
  leads_after b' w (Passes d ms ws) a b = reaches_then a b
  leads_after b' w (Gives d v) a b = reaches_then a b
  leads_after b' w (Fails d why) a b = reaches_then a b
  leads_after b' w (Opens d m) a b = (b.0, b.1, reaches_then a b.2)
  leads_after b' w (OpensThen code d m) a b = (b.0, b.1, reaches_then a b.2)

module _ (wasm : Module) (h : ℕ) (x : Starts) where
  -- what ends doesn't ask what follows, or in which blocks the code stands
  pub leads_end : (n : ℕ) (t : ModuleState) (w : Site) (o : Outcome) → IsEnd o → (below : List Value) (more : List Instr) (levels : List Level)
      → Leads wasm x h n t (record w { below = below; more = more; levels = levels }) o → Leads wasm x h n t w o
  leads_end n t w (Passes d ms ws) end below more levels a = absurd end
  leads_end n t w (Gives d v) end below more levels a = a
  leads_end n t w (Fails d why) end below more levels a = a
  leads_end n t w (Opens d m) end below more levels a = a
  leads_end n t w (OpensThen code d m) end below more levels a = a

  -- code inside a block that ends
  pub out_of : (n : ℕ) (t : ModuleState) (w : Site) (o : Outcome) → IsEnd o → Leads wasm x h n t (inner w) o → Leads wasm x h n t w o
  out_of n t w o end a = leads_end n t w o end [] [] (block_level w ∷ w.levels) a

module _ (wasm : Module) (h : ℕ) (x : Starts) where
  -- what takes no more than a steps takes no more than b
  leads_more : (a' b' : ℕ) → a' ≤ b' → (t : ModuleState) (w : Site) (o : Outcome) → Leads wasm x h a' t w o → Leads wasm x h b' t w o
  leads_more a' b' le t w (Passes d ms ws) a = reaches_more le a
  leads_more a' b' le t w (Gives d v) a = reaches_more le a
  leads_more a' b' le t w (Fails d why) a = reaches_more le a
  leads_more a' b' le t w (Opens d m) a = (a.0, a.1, reaches_more le a.2)
  leads_more a' b' le t w (OpensThen code d m) a = (a.0, a.1, reaches_more le a.2)

module _ {wasm : Module} {x : Starts} {h : ℕ} where
  pub runs_more : {a' b' : ℕ} {p : List Instr} {c : Changing} {ls vs : List Value} {o : Outcome} → a' ≤ b' → Runs wasm x h a' p c ls vs o → Runs wasm x h b' p c ls vs o
  runs_more {a'} {b'} {p} {c} {ls} {vs} {o} le a = record { runs = λ w. leads_more wasm h x a' b' le (spot c ls w vs p) w o (a.runs w) }

  pub answers_more : {a' b' : ℕ} {p : List Instr} {c : Changing} {ls : List Value} {o : Outcome} → a' ≤ b' → Answers wasm x h a' p c ls o → Answers wasm x h b' p c ls o
  answers_more {a'} {b'} {p} {c} {ls} {o} le a =
      record { runs = λ f b gs. leads_more wasm h x a' b' le (spot c ls (bottom f b gs) [] p) (bottom f b gs) o (a.runs f b gs) }

  -- ---- one after the other

  pub runs_then : {a' b' : ℕ} {p q : List Instr} {c d : Changing} {ls ms vs ws : List Value} (o : Outcome) → Runs wasm x h a' p c ls vs (Passes d ms ws)
      → Runs wasm x h b' q d ms ws o → Runs wasm x h (a' + b') (p ++ q) c ls vs o
  runs_then {a'} {b'} {p} {q} {c} {d} {ls} {ms} {vs} {ws} o a b = record {
    runs = λ w. rw append_assoc (leads_after h x b' w o (a.runs (record w { more = q ++ w.more })) (b.runs w));
  }

  pub runs_ends : {n : ℕ} {p : List Instr} {c : Changing} {ls vs : List Value} (q : List Instr) (o : Outcome) → IsEnd o → Runs wasm x h n p c ls vs o
      → Runs wasm x h n (p ++ q) c ls vs o
  runs_ends {n} {p} {c} {ls} {vs} q o end a = record {
    runs = λ w. rw append_assoc (leads_end wasm h x n (spot c ls (record w { more = q ++ w.more }) vs p) w o end w.below (q ++ w.more) w.levels (a.runs (record w { more = q ++ w.more })));
  }

  -- what does its work whatever the locals are
  pub runs_does : {n : ℕ} {p : List Instr} {c d : Changing} {vs ws : List Value} (ls : List Value) → Does wasm h n p c vs d ws None
      → Runs wasm x h n p c ls vs (Passes d ls ws)
  runs_does ls a = record { runs = λ w. a.runs (around w ls) }

  pub runs_fails : {n : ℕ} {p : List Instr} {c d : Changing} {vs ws : List Value} {why : Trap} (ls : List Value) → Does wasm h n p c vs d ws (Some why)
      → Runs wasm x h n p c ls vs (Fails d why)
  runs_fails ls a = record { runs = λ w. a.runs (around w ls) }

  -- ---- locals

  pub runs_get : {c : Changing} {ls : List Value} (k : ℕ) (v : Value) (vs : List Value) → slice_get ls k ≡ Some v
      → Runs wasm x h 1 (Index 0x20 k ∷ []) c ls vs (Passes c ls (v ∷ vs))
  unfolding out-Instr out
  runs_get k v vs e = record { runs = λ w. one_step (omega arith) refl (rw e refl) }

  pub runs_set : {c : Changing} {ls : List Value} (k : ℕ) (v old : Value) (vs : List Value) → slice_get ls k ≡ Some old
      → Runs wasm x h 1 (Index 0x21 k ∷ []) c ls (v ∷ vs) (Passes c (slice_set ls k v) vs)
  unfolding out-Instr out
  runs_set k v old vs e = record { runs = λ w. one_step (omega arith) refl (rw e refl) }

  pub runs_tee : {c : Changing} {ls : List Value} (k : ℕ) (v old : Value) (vs : List Value) → slice_get ls k ≡ Some old
      → Runs wasm x h 1 (Index 0x22 k ∷ []) c ls (v ∷ vs) (Passes c (slice_set ls k v) (v ∷ vs))
  unfolding out-Instr out
  runs_tee k v old vs e = record { runs = λ w. one_step (omega arith) refl (rw e refl) }

  -- ---- blocks

  pub runs_when : {n : ℕ} {p : List Instr} {c : Changing} {ls : List Value} (a k : ℕ) (o : Outcome) → low W32 a ≡ suc k → IsEnd o
      → Runs wasm x h n p c ls [] o → Runs wasm x h (1 + n) (when p ∷ []) c ls (Num a ∷ []) o
  runs_when {n} {p} {c} {ls} a k o e end r = record {
    runs = λ w. leads_after h x n w o (into_when h ls w p a k e) (out_of wasm h x n (spot c ls (inner w) [] p) w o end (r.runs (inner w)));
  }

  pub runs_when_on : {n : ℕ} {p : List Instr} {c d : Changing} {ls ms : List Value} (a k : ℕ) → low W32 a ≡ suc k
      → Runs wasm x h n p c ls [] (Passes d ms []) → Runs wasm x h (1 + (n + 1)) (when p ∷ []) c ls (Num a ∷ []) (Passes d ms [])
  runs_when_on {n} {p} {c} {d} {ls} {ms} a k e r = record {
    runs = λ w. reaches_then (into_when h ls w p a k e) (reaches_then (r.runs (inner w)) (off_inner h ms w));
  }

  pub runs_over : {c : Changing} {ls : List Value} (p : List Instr) (a : ℕ) → low W32 a ≡ 0
      → Runs wasm x h 2 (when p ∷ []) c ls (Num a ∷ []) (Passes c ls [])
  runs_over {c} {ls} p a e = record { runs = λ w. over_when h ls w p a e }

  -- ---- returns

  pub runs_return : {c : Changing} {ls : List Value} (v : Value) → Runs wasm x h 2 (Plain 0x0F ∷ []) c ls (v ∷ []) (Gives c v)
  runs_return {c} {ls} v = record { runs = λ w. returns_with h ls v w }

  -- ---- bodies

  pub answers_runs : {n : ℕ} {p : List Instr} {c : Changing} {ls : List Value} {o : Outcome} → Runs wasm x h n p c ls [] o → Answers wasm x h n p c ls o
  answers_runs a = record { runs = λ f b gs. a.runs (bottom f b gs) }

  pub answers_last : {n : ℕ} {p : List Instr} {c d : Changing} {ls : List Value} (ms : List Value) {v : Value} → Runs wasm x h n p c ls [] (Passes d ms (v ∷ []))
      → Answers wasm x h (n + 1) p c ls (Gives d v)
  answers_last ms {v} a = record { runs = λ f b gs. reaches_then (a.runs (bottom f b gs)) (leaves_with h ms v (bottom f b gs)) }

  pub answers_then : {a' b' : ℕ} {p q : List Instr} {c d : Changing} {ls ms : List Value} {o : Outcome} → Runs wasm x h a' p c ls [] (Passes d ms [])
      → Answers wasm x h b' q d ms o → Answers wasm x h (a' + b') (p ++ q) c ls o
  answers_then {a'} {b'} {p} {q} {c} {d} {ls} {ms} {o} a b = record {
    runs = λ f caller gs.
        rw append_assoc (leads_after h x b' (bottom f caller gs) o (a.runs (record (bottom f caller gs) { more = q ++ [] })) (b.runs f caller gs));
  }
