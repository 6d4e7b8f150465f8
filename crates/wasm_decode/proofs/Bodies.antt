-- Reading groups of locals and bodies one after the other, as the loops do.
use Rattle.std.proofs.Common.{◌≡◌, ℕ, suc, ◌-◌, ◌+◌, ◌<◌, ◌≤◌, List, [], ◌∷◌, ◌++◌, Result, Ok, Err, refl, sym, ap, ◌∙◌, arith}
use Rattle.std.proofs.lemmas.List.{append-nil}
use Rattle.std.proofs.lemmas.Bool.{le-ltb, lt-ltb}
use Rattle.wasm_form.specs.declared.types.ValType.{ValType}
use Rattle.wasm_form.specs.declared.module.Group.{Group}
use Rattle.wasm_form.specs.declared.module.Code.{Code}
use Rattle.wasm_read.specs.declared.broken.Break.{Break}
use Rattle.wasm_read.specs.declared.broken.Break.TheVariants as breaks
use Rattle.spec_reading.specs.spec_binary.declared.fault.DecodeFault.{DecodeFault}
use Rattle.spec_reading.specs.Steps as steps
use Rattle.spec_reading.specs.Steps.{◌>>=◌, Read}
use Rattle.spec_reading.specs.Values.{number_at}
use Rattle.spec_reading.specs.Types.{val_type_at}
use Rattle.spec_reading.specs.Bodies.{Room, groups_at, code_at, in_body, bodies_at}
use Rattle.wasm_read.specs.Given.{Fails}
use Rattle.wasm_decode.specs.Given.{Refuses, fault_of_body}
use Rattle.wasm_read.proofs.Loops.{with_front, regroup, front_nil, fails_moved}

abbrev group_of : ℕ → ValType → Group
group_of n ty = record { count = n; ty = ty }

module _ (most : ℕ) where
  pub groups_begin : (count : ℕ) (bytes : List ℕ) → with_front [] (groups_at most (count - 0) 0 bytes) ≡ groups_at most count 0 bytes
  groups_begin count bytes = let e : count - 0 ≡ count = omega arith in rw e (front_nil (groups_at most count 0 bytes))

  pub groups_go_on : (front : List Group) (count i so_far : ℕ) (bytes : List ℕ) (n : ℕ) (after : List ℕ) (ty : ValType) (next : List ℕ) (total : Read (List Group)) → i < count → number_at 32 bytes ≡ Ok (n, after)
      → so_far + n ≤ most → val_type_at after ≡ Ok (ty, next) → with_front front (groups_at most (count - i) so_far bytes) ≡ total
      → with_front (front ++ group_of n ty ∷ []) (groups_at most (count - (i + 1)) (so_far + n) next) ≡ total
  unfolding groups_at
  groups_go_on front count i so_far bytes n after ty next total lt h le g before =
      let k : count - i ≡ suc (count - (i + 1)) = omega arith in
      let one : with_front front (groups_at most (count - i) so_far bytes) ≡ with_front (front ++ group_of n ty ∷ []) (groups_at most (count - (i + 1)) (so_far + n) next)
      = rw (k, h, le-ltb most (so_far + n) le, g) (regroup front (group_of n ty) (groups_at most (count - (i + 1)) (so_far + n) next)) in
      sym one ∙ before

  no_count : (d : steps.Break) (front : List Group) (count i so_far : ℕ) (bytes : List ℕ) (total : Read (List Group)) → i < count → number_at 32 bytes ≡ Err d
      → with_front front (groups_at most (count - i) so_far bytes) ≡ total → total ≡ Err d
  unfolding groups_at
  no_count d front count i so_far bytes total lt h before =
      let k : count - i ≡ suc (count - (i + 1)) = omega arith in
      let one : with_front front (groups_at most (count - i) so_far bytes) ≡ Err d = rw (k, h) refl in
      sym before ∙ one

  pub count_fails : (e : Break) (front : List Group) (count i so_far : ℕ) (bytes : List ℕ) (total : Read (List Group)) → i < count → Fails e (number_at 32 bytes)
      → with_front front (groups_at most (count - i) so_far bytes) ≡ total → Fails e total
  count_fails e front count i so_far bytes total lt f before = fails_moved e (number_at 32 bytes) total (λ d h. no_count d front count i so_far bytes total lt h before) f

  pub limit_passed : (front : List Group) (count i so_far : ℕ) (bytes : List ℕ) (n : ℕ) (after : List ℕ) (total : Read (List Group)) → i < count → number_at 32 bytes ≡ Ok (n, after)
      → most < so_far + n → with_front front (groups_at most (count - i) so_far bytes) ≡ total → total ≡ Err steps.TooManyLocals
  unfolding groups_at
  limit_passed front count i so_far bytes n after total lt h gt before =
      let k : count - i ≡ suc (count - (i + 1)) = omega arith in
      let one : with_front front (groups_at most (count - i) so_far bytes) ≡ Err steps.TooManyLocals = rw (k, h, lt-ltb most (so_far + n) gt) refl in
      sym before ∙ one

  no_type : (d : steps.Break) (front : List Group) (count i so_far : ℕ) (bytes : List ℕ) (n : ℕ) (after : List ℕ) (total : Read (List Group)) → i < count → number_at 32 bytes ≡ Ok (n, after)
      → so_far + n ≤ most → val_type_at after ≡ Err d → with_front front (groups_at most (count - i) so_far bytes) ≡ total → total ≡ Err d
  unfolding groups_at
  no_type d front count i so_far bytes n after total lt h le g before =
      let k : count - i ≡ suc (count - (i + 1)) = omega arith in
      let one : with_front front (groups_at most (count - i) so_far bytes) ≡ Err d = rw (k, h, le-ltb most (so_far + n) le, g) refl in
      sym before ∙ one

  pub type_fails : (e : Break) (front : List Group) (count i so_far : ℕ) (bytes : List ℕ) (n : ℕ) (after : List ℕ) (total : Read (List Group)) → i < count → number_at 32 bytes ≡ Ok (n, after)
      → so_far + n ≤ most → Fails e (val_type_at after) → with_front front (groups_at most (count - i) so_far bytes) ≡ total → Fails e total
  type_fails e front count i so_far bytes n after total lt h le f before =
      fails_moved e (val_type_at after) total (λ d g. no_type d front count i so_far bytes n after total lt h le g before) f

  pub groups_end : (front : List Group) (count i so_far : ℕ) (bytes : List ℕ) (total : Read (List Group)) → count ≤ i → with_front front (groups_at most (count - i) so_far bytes) ≡ total → total ≡ Ok (front, bytes)
  unfolding groups_at
  groups_end front count i so_far bytes total le before =
      let k : count - i ≡ 0 = omega arith in
      let one : with_front front (groups_at most (count - i) so_far bytes) ≡ Ok (front, bytes) = rw k (ap (λ (ns : List Group). Ok (ns, bytes)) (append-nil front)) in
      sym before ∙ one

abbrev pub Codes : Type 0
Codes = Result (List Code × List ℕ) DecodeFault

module _ (room : Room) (section : ℕ) where
  pub bodies_begin : (count : ℕ) (bytes : List ℕ) → with_front [] (bodies_at room section (count - 0) 0 bytes) ≡ bodies_at room section count 0 bytes
  bodies_begin count bytes = let e : count - 0 ≡ count = omega arith in rw e (front_nil (bodies_at room section count 0 bytes))

  pub bodies_go_on : (front : List Code) (count i : ℕ) (bytes : List ℕ) (x : Code) (after : List ℕ) (total : Codes) → i < count → code_at room bytes ≡ Ok (x, after)
      → with_front front (bodies_at room section (count - i) i bytes) ≡ total → with_front (front ++ x ∷ []) (bodies_at room section (count - (i + 1)) (i + 1) after) ≡ total
  unfolding bodies_at
  bodies_go_on front count i bytes x after total lt h before =
      let k : count - i ≡ suc (count - (i + 1)) = omega arith in
      let s : suc i ≡ i + 1 = omega arith in
      let one : with_front front (bodies_at room section (count - i) i bytes) ≡ with_front (front ++ x ∷ []) (bodies_at room section (count - (i + 1)) (suc i) after)
      = rw (k, h) (regroup front x (bodies_at room section (count - (i + 1)) (suc i) after)) in
      ap (λ n. with_front (front ++ x ∷ []) (bodies_at room section (count - (i + 1)) n after)) (sym s) ∙ sym one ∙ before

  no_body : (r : Result (Code × List ℕ) steps.Break) (front : List Code) (count i : ℕ) (bytes : List ℕ) (total : Codes) → i < count → code_at room bytes ≡ r
      → with_front front (bodies_at room section (count - i) i bytes) ≡ total
      → with_front front (in_body section i r >>= λ code. bodies_at room section (count - (i + 1)) (suc i) code.1 >>= λ codes. Ok (code.0 ∷ codes.0, codes.1)) ≡ total
  unfolding bodies_at
  no_body r front count i bytes total lt h before =
      let k : count - i ≡ suc (count - (i + 1)) = omega arith in
      let one : with_front front (bodies_at room section (count - i) i bytes)
      ≡ with_front front (in_body section i r >>= λ code. bodies_at room section (count - (i + 1)) (suc i) code.1 >>= λ codes. Ok (code.0 ∷ codes.0, codes.1)) = rw (k, h) refl in
      sym one ∙ before

  pub body_fails : (e : Break) (front : List Code) (count i : ℕ) (bytes : List ℕ) (total : Codes) → i < count → Fails e (code_at room bytes)
      → with_front front (bodies_at room section (count - i) i bytes) ≡ total → Refuses (fault_of_body section i e) total
  body_fails breaks.Broken front count i bytes total lt f before = sym (no_body (Err steps.Broken) front count i bytes total lt f before)
  body_fails breaks.TooDeep front count i bytes total lt f before = sym (no_body (Err steps.TooDeep) front count i bytes total lt f before)
  body_fails breaks.TooManyLocals front count i bytes total lt f before = sym (no_body (Err steps.TooManyLocals) front count i bytes total lt f before)
  body_fails breaks.Memory front count i bytes total lt f before = tt

  pub bodies_end : (front : List Code) (count i : ℕ) (bytes : List ℕ) (total : Codes) → count ≤ i → with_front front (bodies_at room section (count - i) i bytes) ≡ total → total ≡ Ok (front, bytes)
  unfolding bodies_at
  bodies_end front count i bytes total le before =
      let k : count - i ≡ 0 = omega arith in
      let one : with_front front (bodies_at room section (count - i) i bytes) ≡ Ok (front, bytes) = rw k (ap (λ (ns : List Code). Ok (ns, bytes)) (append-nil front)) in
      sym before ∙ one
