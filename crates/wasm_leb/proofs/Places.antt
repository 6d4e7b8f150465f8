-- A text from a place on.
use Rattle.std.proofs.Common.{◌≡◌, ℕ, ◌+◌, ◌<◌, ◌≤◌, List, [], ◌∷◌, ◌++◌, length, take, drop, get_or, add-one, sym, ap, ◌∙◌, arith}
use Rattle.std.proofs.lemmas.List.{take-take, length-append}
use Rattle.std.proofs.Math.Seq.{take-append_seam}
use Rattle.std.proofs.Math.Seq.{drop-cons}

-- the text from a place on begins with the byte there
pub starts : (bytes : List ℕ) (at : ℕ) → at < length bytes → drop at bytes ≡ get_or bytes at 0 ∷ drop (at + 1) bytes
starts bytes at h = rw add-one (drop-cons bytes at 0 h)

-- what stood before one more byte is kept, if all is
pub kept_before : (old mid new : List ℕ) (b : ℕ) → mid ≡ old ++ b ∷ [] → take (length mid) new ≡ mid → take (length old) new ≡ old
kept_before old mid new b e h =
    let size = ap length e in
    let within : length old ≤ length mid = omega (arith, length-append old (b ∷ [])) in
    sym (take-take (length old) (length mid) new within) ∙ ap (take (length old)) (h ∙ e) ∙ take-append_seam old (b ∷ [])
