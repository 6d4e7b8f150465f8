-- Each kind of write that a call of WASI answers lies inside the memory.
use Rattle.std.proofs.Common.{◌≡◌, ℕ, ◌+◌, ◌*◌, ◌≤◌, true, List, [], ◌∷◌, ◌++◌, length, map, take, drop, IsTrue, refl, arith, le-leb, leb-true, length-append, length-take}
use Rattle.std.proofs.lemmas.Bool.{and_from, and_parts}
use Rattle.std.proofs.lemmas.List.Sums.{sum_by-cons}
use Rattle.spec_runtime.specs.wasm_form.declared.runtime.Write.{Write}
use Rattle.spec_runtime.specs.Memories.{MemoryInstance}
use Rattle.spec_runtime.specs.Hosts.{writes_fit}
use Rattle.spec_hosts.specs.Calls.{bytes_at, word_at, is_in, are_in, with_zero, texts_size, pointers_at, texts_at, filled}

module _ (memory : MemoryInstance) where
  pub two_inside : (xs ys : List Write) → IsTrue (writes_fit xs memory) → IsTrue (writes_fit ys memory) → IsTrue (writes_fit (xs ++ ys) memory)
  two_inside [] ys first second = second
  two_inside (x ∷ xs) ys first second =
      let both = and_parts _ (writes_fit xs memory) first in
      and_from _ (writes_fit (xs ++ ys) memory) both.0 (two_inside xs ys both.1 second)

  pub bytes_inside : (at : ℕ) (bytes : List ℕ) → at + length bytes ≤ length memory.bytes → IsTrue (writes_fit (bytes_at at bytes) memory)
  bytes_inside at [] within = refl
  bytes_inside at (b ∷ bytes) within = and_from _ true (le-leb (at + length (b ∷ bytes)) (length memory.bytes) within) refl

  pub word_inside : (at n : ℕ) → at + 4 ≤ length memory.bytes → IsTrue (writes_fit (word_at at n) memory)
  word_inside at n within = and_from _ true (le-leb (at + 4) (length memory.bytes) within) refl

  pub pointers_inside : (at place : ℕ) (texts : List (List ℕ)) → at + 4 * length texts ≤ length memory.bytes → IsTrue (writes_fit (pointers_at at place texts) memory)
  pointers_inside at place [] within = refl
  pointers_inside at place (t ∷ ts) within =
      two_inside (word_at at place) (pointers_at (at + 4) (place + (length t + 1)) ts) (word_inside at place (omega arith)) (pointers_inside (at + 4) (place + (length t + 1)) ts (omega arith))

  pub texts_inside : (place : ℕ) (texts : List (List ℕ)) → place + texts_size texts ≤ length memory.bytes → IsTrue (writes_fit (texts_at place texts) memory)
  texts_inside place [] within = refl
  texts_inside place (t ∷ ts) within =
      let size : texts_size (t ∷ ts) ≡ length t + 1 + texts_size ts = sum_by-cons (λ n. n) (length t + 1) (map (λ t. length t + 1) ts) in
      let one : length (with_zero t) ≡ length t + 1 = length-append t (0 ∷ []) in
      two_inside (bytes_at place (with_zero t)) (texts_at (place + (length t + 1)) ts) (bytes_inside place (with_zero t) (omega arith)) (texts_inside (place + (length t + 1)) ts (omega arith))

  pub filled_inside : (buffers : List (ℕ × ℕ)) (bytes : List ℕ) → IsTrue (are_in memory buffers) → IsTrue (writes_fit (filled buffers bytes) memory)
  filled_inside [] bytes inside = refl
  filled_inside (b ∷ bs) bytes inside =
      let both = and_parts (is_in memory b.0 b.1) (are_in memory bs) inside in
      let within : b.0 + b.1 ≤ length memory.bytes = leb-true (b.0 + b.1) (length memory.bytes) both.0 in
      two_inside (bytes_at b.0 (take b.1 bytes)) (filled bs (drop b.1 bytes)) (bytes_inside b.0 (take b.1 bytes) (omega (arith, length-take b.1 bytes))) (filled_inside bs (drop b.1 bytes) both.1)
