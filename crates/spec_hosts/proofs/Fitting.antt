-- What a call of WASI answers fits its type and the memory.
use Rattle.std.proofs.Common.{◌≡◌, ℕ, zero, suc, ◌+◌, ◌*◌, ◌≤◌, Bool, true, false, ◌||◌, not, cond, List, [], ◌∷◌, ◌++◌, length, take, nat_eq, nat_lt, Option, Some, None, Result, Ok, Err, IsTrue, refl, sym, subst, arith, leb-true, length-take, true≢false}
use Rattle.std.proofs.lemmas.Bool.{and_parts, not-false}
use Rattle.dyl_outside.specs.declared.fault.IoFault.{IoFault}
use Rattle.dyl_outside.specs.declared.fault.IoFault.TheVariants.{Failed, Memory}
use Rattle.spec_runtime.specs.wasm_form.declared.types.ValType.TheVariants.{I32}
use Rattle.spec_runtime.specs.wasm_form.declared.types.FuncType.{FuncType}
use Rattle.spec_runtime.specs.wasm_form.declared.runtime.Answer.{Answer}
use Rattle.spec_runtime.specs.Names.{is_rest_type, is_one_i32}
use Rattle.spec_runtime.specs.Memories.{MemoryInstance, little}
use Rattle.spec_runtime.specs.Hosts.{numbers_fit, fits_results}
use Rattle.dyl_outside.specs.Ambient.{AmbientState}
use Rattle.spec_hosts.specs.Devices.{Devices}
use Rattle.spec_hosts.specs.Calls as calls
use Rattle.spec_hosts.specs.Calls.{WasiCall, ArgsSizesGet, ArgsGet, EnvironSizesGet, EnvironGet, FdWrite, FdRead, FdClose, FdSeek, FdFdstatGet, FdPrestatGet, FdPrestatDirName, ClockTimeGet, RandomGet, ProcExit}
use Rattle.spec_hosts.specs.Hosted.{AfterUse, Draws, AfterWord, IsAnswered}
use Rattle.spec_hosts.specs.Laws.{IsWasiType}
use Rattle.spec_hosts.proofs.Types.{one_i32}
use Rattle.spec_hosts.proofs.Inside.{two_inside, bytes_inside, word_inside, pointers_inside, texts_inside, filled_inside}

-- ---- what holds of each answer that a call may give

module _ (Holds : Answer → Type 0) where
  abbrev pub HoldsOfEach : calls.Wanted → Type 0
  HoldsOfEach (calls.Says said) = Holds said
  HoldsOfEach (calls.PutsOut bytes said) = Holds (calls.refused calls.io) × Holds said
  HoldsOfEach (calls.PutsError bytes said) = Holds (calls.refused calls.io) × Holds said
  HoldsOfEach (calls.Takes most go) = Holds (calls.refused calls.io) × ((bytes : List ℕ) → Holds (go bytes))
  HoldsOfEach (calls.Times go) = Holds (calls.refused calls.io) × ((time : ℕ) → Holds (go time))
  HoldsOfEach (calls.Draws n go) = Holds (calls.refused calls.io) × ((words : List ℕ) → Holds (go words))

  holds_after : {A : Type 0} (go : A → Answer) (answer : Answer) (result : Result A IoFault) → Holds (calls.refused calls.io) → ((value : A) → Holds (go value)) → AfterUse go answer result → Holds answer
  holds_after go answer (Ok value) failed each h = subst Holds (sym h) (each value)
  holds_after go answer (Err Failed) failed each h = subst Holds (sym h) failed
  holds_after go answer (Err Memory) failed each h = absurd h

  holds_after_word : (more : ℕ → AmbientState → Type 0) (answer : Answer) (middle new : AmbientState) (result : Result ℕ IoFault)
      → Holds (calls.refused calls.io) → ((word : ℕ) → more word middle → Holds answer) → AfterWord more answer middle new result → Holds answer
  holds_after_word more answer middle new (Ok word) failed later h = later word h
  holds_after_word more answer middle new (Err Failed) failed later h = subst Holds (sym h.0) failed
  holds_after_word more answer middle new (Err Memory) failed later h = absurd h

  holds_after_words : (n : ℕ) (words : List ℕ) (go : List ℕ → Answer) (answer : Answer) (old new : AmbientState)
      → Holds (calls.refused calls.io) → ((words : List ℕ) → Holds (go words)) → Draws n words go answer old new → Holds answer
  holds_after_words zero words go answer old new failed each h = subst Holds (sym h.0) (each words)
  holds_after_words (suc n) words go answer old new failed each h =
      holds_after_word (λ word clock. Draws n (words ++ word ∷ []) go answer clock new) answer h.1 new h.0 failed (λ word later. holds_after_words n (words ++ word ∷ []) go answer h.1 new failed each later) h.3

  pub holds_of_answer : (wanted : calls.Wanted) (answer : Answer) (old new : Devices) → HoldsOfEach wanted → IsAnswered wanted answer old new → Holds answer
  holds_of_answer (calls.Says said) answer old new each h = subst Holds (sym h.0) each
  holds_of_answer (calls.PutsOut bytes said) answer old new each h = holds_after (λ _. said) answer h.0 each.0 (λ _. each.1) h.4
  holds_of_answer (calls.PutsError bytes said) answer old new each h = holds_after (λ _. said) answer h.0 each.0 (λ _. each.1) h.4
  holds_of_answer (calls.Takes most go) answer old new each h = holds_after (λ bytes. go bytes.items) answer h.0 each.0 (λ bytes. each.1 bytes.items) h.4
  holds_of_answer (calls.Times go) answer old new each h = holds_after go answer h.0 each.0 each.1 h.4
  holds_of_answer (calls.Draws n go) answer old new each h = holds_after_words n [] go answer old.ambient h.0 each.0 each.1 h.1

-- ---- each call

module _ (memory : MemoryInstance) where
  -- the one result i32 and writes inside the memory
  abbrev pub IsErrno : Answer → Type 0
  IsErrno answer = IsTrue (fits_results (I32 ∷ []) memory answer)

  abbrev pub AreErrnos : calls.Wanted → Type 0
  AreErrnos wanted = HoldsOfEach IsErrno wanted

  unless_errnos : (b : Bool) (errno : ℕ) (go : calls.Wanted) → IsErrno (calls.refused errno) → (b ≡ false → AreErrnos go) → AreErrnos (calls.unless b errno go)
  unless_errnos true errno go known next = known
  unless_errnos false errno go known next = next refl

  unless_past : (at len : ℕ) (go : calls.Wanted) → (at + len ≤ length memory.bytes → AreErrnos go) → AreErrnos (calls.unless (calls.is_past memory at len) calls.fault go)
  unless_past at len go next =
      unless_errnos (calls.is_past memory at len) calls.fault go refl (λ e. next (leb-true (at + len) (length memory.bytes) (not-false (calls.is_in memory at len) e)))

  sizes_errnos : (texts : List (List ℕ)) (count size : ℕ) → AreErrnos (calls.sizes_wanted texts memory count size)
  sizes_errnos texts count size =
      unless_past count 4 _ (λ first. unless_past size 4 _ (λ second.
      two_inside memory (calls.word_at count (length texts)) (calls.word_at size (calls.texts_size texts)) (word_inside memory count (length texts) first) (word_inside memory size (calls.texts_size texts) second)))

  texts_errnos : (texts : List (List ℕ)) (argv buf : ℕ) → AreErrnos (calls.texts_wanted texts memory argv buf)
  texts_errnos texts argv buf =
      unless_past argv (4 * length texts) _ (λ first. unless_past buf (calls.texts_size texts) _ (λ second.
      two_inside memory (calls.pointers_at argv buf texts) (calls.texts_at buf texts) (pointers_inside memory argv buf texts first) (texts_inside memory buf texts second)))

  buffers_errnos : (vectors n out : ℕ) (go : List (ℕ × ℕ) → calls.Wanted)
      → ((buffers : List (ℕ × ℕ)) → IsTrue (calls.are_in memory buffers) → out + 4 ≤ length memory.bytes → AreErrnos (go buffers)) → AreErrnos (calls.with_buffers memory vectors n out go)
  buffers_errnos vectors n out go next =
      let buffers : List (ℕ × ℕ) = calls.vectors_at memory vectors n in
      unless_errnos (nat_lt calls.most_vectors n) calls.inval _ refl (λ few.
      unless_past vectors (8 * n) _ (λ within.
      unless_errnos (not (calls.are_in memory buffers)) calls.fault _ refl (λ inside.
      unless_past out 4 _ (λ room. next buffers (not-false (calls.are_in memory buffers) inside) room))))

  out_errnos : (fd out : ℕ) (bytes : List ℕ) → out + 4 ≤ length memory.bytes → AreErrnos (calls.written_out fd out bytes)
  out_errnos fd out [] room = word_inside memory out 0 room
  out_errnos fd out (b ∷ bytes) room = either (nat_eq fd 1)
    where
      said : Answer
      said = calls.success (calls.word_at out (length (b ∷ bytes)))

      either : (first : Bool) → AreErrnos (cond first (calls.PutsOut (b ∷ bytes) said) (calls.PutsError (b ∷ bytes) said))
      either true = (refl, word_inside memory out (length (b ∷ bytes)) room)
      either false = (refl, word_inside memory out (length (b ∷ bytes)) room)

  write_errnos : (fd vectors n out : ℕ) → AreErrnos (calls.write_wanted memory fd vectors n out)
  write_errnos fd vectors n out =
      unless_errnos (not (nat_eq fd 1 || nat_eq fd 2)) calls.badf _ refl (λ sink.
      buffers_errnos vectors n out _ (λ buffers inside room. out_errnos fd out (take calls.most_bytes (calls.joined memory buffers)) room))

  in_errnos : (out : ℕ) (buffers : List (ℕ × ℕ)) (size : ℕ) → IsTrue (calls.are_in memory buffers) → out + 4 ≤ length memory.bytes → AreErrnos (calls.read_in out buffers size)
  in_errnos out buffers zero inside room = word_inside memory out 0 room
  in_errnos out buffers (suc n) inside room =
      (refl, λ bytes. two_inside memory (calls.filled buffers bytes) (calls.word_at out (length bytes)) (filled_inside memory buffers bytes inside) (word_inside memory out (length bytes) room))

  read_errnos : (fd vectors n out : ℕ) → AreErrnos (calls.read_wanted memory fd vectors n out)
  read_errnos fd vectors n out =
      unless_errnos (not (nat_eq fd 0)) calls.badf _ refl (λ source.
      buffers_errnos vectors n out _ (λ buffers inside room. in_errnos out buffers (calls.sizes buffers) inside room))

  fdstat_errnos : (fd out : ℕ) → AreErrnos (calls.fdstat_wanted memory fd out)
  fdstat_errnos fd out =
      unless_errnos (not (calls.is_open fd)) calls.badf _ refl (λ there.
      unless_past out 24 _ (λ room. bytes_inside memory out (calls.fdstat fd) room))

  time_errnos : (id out : ℕ) → AreErrnos (calls.time_wanted memory id out)
  time_errnos id out =
      unless_errnos (not (nat_lt id 2)) calls.inval _ refl (λ known.
      unless_past out 8 _ (λ room. (refl, λ time. bytes_inside memory out (little 8 time) room)))

  random_errnos : (buf len : ℕ) → AreErrnos (calls.random_wanted memory buf len)
  random_errnos buf len =
      unless_past buf len _ (λ room.
      unless_errnos (nat_lt calls.most_bytes len) calls.inval _ refl (λ few.
      (refl, λ words. bytes_inside memory buf (take len (calls.word_bytes words)) (omega (arith, length-take len (calls.word_bytes words))))))

  -- a call fits its results, whatever its arguments; the end of the program has no results
  call_fits : (texts : List (List ℕ)) (c : WasiCall) (args : List ℕ) → IsTrue (numbers_fit (calls.params_of c) args)
      → HoldsOfEach (λ answer. IsTrue (fits_results (calls.results_of c) memory answer)) (calls.wanted_of texts memory c args)
  call_fits texts ArgsSizesGet (count ∷ size ∷ []) fit = sizes_errnos texts count size
  call_fits texts ArgsGet (argv ∷ buf ∷ []) fit = texts_errnos texts argv buf
  call_fits texts EnvironSizesGet (count ∷ size ∷ []) fit = sizes_errnos [] count size
  call_fits texts EnvironGet (environ ∷ buf ∷ []) fit = refl
  call_fits texts FdWrite (fd ∷ vectors ∷ n ∷ out ∷ []) fit = write_errnos fd vectors n out
  call_fits texts FdRead (fd ∷ vectors ∷ n ∷ out ∷ []) fit = read_errnos fd vectors n out
  call_fits texts FdClose (fd ∷ []) fit = unless_errnos (not (calls.is_open fd)) calls.badf (calls.Says (calls.success [])) refl (λ there. refl)
  call_fits texts FdSeek (fd ∷ offset ∷ whence ∷ out ∷ []) fit = unless_errnos (not (calls.is_open fd)) calls.badf (calls.Says (calls.refused calls.spipe)) refl (λ there. refl)
  call_fits texts FdFdstatGet (fd ∷ out ∷ []) fit = fdstat_errnos fd out
  call_fits texts FdPrestatGet (fd ∷ out ∷ []) fit = refl
  call_fits texts FdPrestatDirName (fd ∷ path ∷ n ∷ []) fit = refl
  call_fits texts ClockTimeGet (id ∷ precision ∷ out ∷ []) fit = time_errnos id out
  call_fits texts RandomGet (buf ∷ len ∷ []) fit = random_errnos buf len
  call_fits texts ProcExit [] fit = absurd cc
  call_fits texts ProcExit (code ∷ []) fit = refl
  call_fits texts ProcExit (code ∷ more ∷ rest) fit = absurd (true≢false (sym (and_parts _ false fit).1))
  call_fits texts _ _ fit = refl

-- ---- what is answered

pub answer_fits : (texts : List (List ℕ)) (memory : MemoryInstance) (name : List ℕ) (ty : FuncType) (args : List ℕ) (answer : Answer) (old new : Devices)
    → IsWasiType name ty → IsTrue (numbers_fit ty.params args) → IsAnswered (calls.wanted texts memory name args) answer old new → IsTrue (fits_results ty.results memory answer)
answer_fits texts memory name ty args answer old new typed fit answered = by (calls.call_named name) refl
  where
    by : (found : Option WasiCall) → calls.call_named name ≡ found → IsTrue (fits_results ty.results memory answer)
    by (Some c) e =
        let same : ty ≡ calls.type_of_call c = rw (e, IsWasiType) at typed in
        let so : IsAnswered (calls.wanted_of texts memory c args) answer old new = rw (e, calls.wanted) at answered in
        let fits : IsTrue (fits_results (calls.results_of c) memory answer) =
        holds_of_answer (λ answer. IsTrue (fits_results (calls.results_of c) memory answer)) (calls.wanted_of texts memory c args) answer old new
        (call_fits memory texts c args (subst (λ (t : FuncType). IsTrue (numbers_fit t.params args)) same fit)) so
        in
        subst (λ (t : FuncType). IsTrue (fits_results t.results memory answer)) (sym same) fits
    by None e =
        let rest : IsTrue (is_rest_type ty) = rw (e, IsWasiType) at typed in
        let one : ty.results ≡ I32 ∷ [] = one_i32 ty.results (and_parts _ (is_one_i32 ty.results) rest).1 in
        let so : IsAnswered (calls.Says (calls.refused calls.nosys)) answer old new = rw (e, calls.wanted) at answered in
        rw (one, so.0) refl
