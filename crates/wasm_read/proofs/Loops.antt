-- Reading one thing after another, as a loop does.
use Rattle.std.proofs.Common.{◌≡◌, ℕ, suc, ◌-◌, ◌+◌, ◌<◌, ◌≤◌, List, [], ◌∷◌, ◌++◌, Result, Ok, Err, refl, sym, ap, ◌∙◌, append_assoc, arith}
use Rattle.std.proofs.lemmas.List.{append-nil}
use Rattle.wasm_read.specs.declared.broken.Break.{Break}
use Rattle.wasm_read.specs.declared.broken.Break.TheVariants as breaks
use Rattle.spec_reading.specs.Steps as steps
use Rattle.spec_reading.specs.Steps.{◌>>=◌, Read}
use Rattle.spec_reading.specs.Values.{items_at}
use Rattle.wasm_read.specs.Given.{Fails}

module _ {F : Type 0} {A : Type 0} where
  -- what was read before, and what is still read
  abbrev pub with_front : List A → Result (List A × List ℕ) F → Result (List A × List ℕ) F
  with_front front read = read >>= λ x. Ok (front ++ x.0, x.1)

  pub regroup : (front : List A) (n : A) (read : Result (List A × List ℕ) F) → with_front front (read >>= λ x. Ok (n ∷ x.0, x.1)) ≡ with_front (front ++ n ∷ []) read
  regroup front n (Ok x) = ap (λ (ns : List A). Ok (ns, x.1)) (simp append_assoc)
  regroup front n (Err f) = refl

  pub front_nil : (read : Result (List A × List ℕ) F) → with_front [] read ≡ read
  front_nil (Ok x) = refl
  front_nil (Err f) = refl

-- where reading ends so, what a step does with it ends so
pub fails_moved : {X Y : Type 0} (e : Break) (read : Result X steps.Break) (total : Result Y steps.Break) → ((d : steps.Break) → read ≡ Err d → total ≡ Err d) → Fails e read → Fails e total
fails_moved breaks.Broken read total h f = h steps.Broken f
fails_moved breaks.TooDeep read total h f = h steps.TooDeep f
fails_moved breaks.TooManyLocals read total h f = h steps.TooManyLocals f
fails_moved breaks.Memory read total h f = tt

-- the loop over a count
module _ {A : Type 0} (read : List ℕ → Read A) where
  pub items_begin : (count : ℕ) (bytes : List ℕ) → with_front [] (items_at read (count - 0) bytes) ≡ items_at read count bytes
  items_begin count bytes = let e : count - 0 ≡ count = omega arith in rw e (front_nil (items_at read count bytes))

  pub items_go_on : (front : List A) (count i : ℕ) (bytes : List ℕ) (x : A) (after : List ℕ) (total : Read (List A)) → i < count → read bytes ≡ Ok (x, after)
      → with_front front (items_at read (count - i) bytes) ≡ total → with_front (front ++ x ∷ []) (items_at read (count - (i + 1)) after) ≡ total
  unfolding items_at
  items_go_on front count i bytes x after total lt h so_far =
      let k : count - i ≡ suc (count - (i + 1)) = omega arith in
      let one : with_front front (items_at read (count - i) bytes) ≡ with_front (front ++ x ∷ []) (items_at read (count - (i + 1)) after) = rw (k, h) (regroup front x (items_at read (count - (i + 1)) after)) in
      sym one ∙ so_far

  items_stop : (d : steps.Break) (front : List A) (count i : ℕ) (bytes : List ℕ) (total : Read (List A)) → i < count → read bytes ≡ Err d
      → with_front front (items_at read (count - i) bytes) ≡ total → total ≡ Err d
  unfolding items_at
  items_stop d front count i bytes total lt h so_far =
      let k : count - i ≡ suc (count - (i + 1)) = omega arith in
      let one : with_front front (items_at read (count - i) bytes) ≡ Err d = rw (k, h) refl in
      sym so_far ∙ one

  pub items_fail : (e : Break) (front : List A) (count i : ℕ) (bytes : List ℕ) (total : Read (List A)) → i < count → Fails e (read bytes)
      → with_front front (items_at read (count - i) bytes) ≡ total → Fails e total
  items_fail e front count i bytes total lt f so_far = fails_moved e (read bytes) total (λ d h. items_stop d front count i bytes total lt h so_far) f

  pub items_end : (front : List A) (count i : ℕ) (bytes : List ℕ) (total : Read (List A)) → count ≤ i → with_front front (items_at read (count - i) bytes) ≡ total → total ≡ Ok (front, bytes)
  unfolding items_at
  items_end front count i bytes total le so_far =
      let k : count - i ≡ 0 = omega arith in
      let one : with_front front (items_at read (count - i) bytes) ≡ Ok (front, bytes) = rw k (ap (λ (ns : List A). Ok (ns, bytes)) (append-nil front)) in
      sym so_far ∙ one
