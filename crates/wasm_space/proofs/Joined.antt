-- Bytes in pages.
use Rattle.std.proofs.Common.{◌≡◌, refl, ◌∙◌, sym, ap, subst, ℕ, suc, ◌+◌, ◌*◌, ◌/◌, ◌%◌, ◌≤◌, ◌<◌, List, [], ◌∷◌, ◌++◌, length, take, drop, set, get_or, replicate, arith, append_assoc, append-nil, length-append}
use Rattle.std.proofs.lemmas.List.{drop_more, set_split, take-append-drop, length-take-le, take-append-le, drop-append-le, replicate-append-replicate, length-drop, length-replicate}
use Rattle.std.proofs.lemmas.List.Elements.{All-append, All-set, All-get_or, All-nil, All-take, All-head, All-tail, All-cons}
use Rattle.std.proofs.Math.Seq.{drop-append-add}
use Rattle.spec_runtime.specs.Memories.{zeros, overwritten}
use Rattle.wasm_space.specs.Paged.{joined, IsPage, ArePages}
use Rattle.wasm_space.proofs.Parts.{overwritten_inside, length-overwritten, overwritten_more, overwritten_nil, overwritten_all, part_more}

pub joined-append : (xs ys : List (List ℕ)) → joined (xs ++ ys) ≡ joined xs ++ joined ys
joined-append [] ys = refl
joined-append (x ∷ xs) ys = rw (joined-append xs ys) (sym (append_assoc x (joined xs) (joined ys)))

pub length-joined : (pages : List (List ℕ)) → ArePages pages → length (joined pages) ≡ length pages * 65536
length-joined [] whole = refl
length-joined (p ∷ pages) whole =
    let rest = length-joined pages (All-tail IsPage p pages whole) in
    let first : length p ≡ 65536 = All-head IsPage p pages whole in
    rw (length-append, first, rest) (omega arith)

-- the pages before one, the page, and those after it
split : (pages : List (List ℕ)) (i : ℕ) (d : List ℕ) → i < length pages → joined pages ≡ joined (take i pages) ++ (get_or pages i d ++ joined (drop (i + 1) pages))
split pages i d lt =
    ap joined (sym (take-append-drop i pages)) ∙ rw (joined-append, drop_more pages i d lt) refl

before : (pages : List (List ℕ)) (i : ℕ) → ArePages pages → i ≤ length pages → length (joined (take i pages)) ≡ i * 65536
before pages i whole le = rw (length-joined (take i pages) (All-take IsPage i pages whole), length-take-le i pages le) refl

-- bytes of one page
pub part_of_page : (pages : List (List ℕ)) (at n : ℕ) (d : List ℕ) → ArePages pages → at / 65536 < length pages → at % 65536 + n ≤ 65536
    → take n (drop (at % 65536) (get_or pages (at / 65536) d)) ≡ take n (drop at (joined pages))
part_of_page pages at n d whole lt fits =
    let i = at / 65536 in
    let p = get_or pages i d in
    let size : length p ≡ 65536 = All-get_or IsPage pages i d lt whole in
    let sum : length (joined (take i pages)) + at % 65536 ≡ at = rw (before pages i whole (omega arith)) (omega arith) in
    let low : at % 65536 ≤ length p = omega arith in
    let rest : drop at (joined pages) ≡ drop (at % 65536) p ++ joined (drop (i + 1) pages) = ap (λ k. drop k (joined pages)) (sym sum) ∙ ap (drop (length (joined (take i pages)) + at % 65536)) (split pages i d lt) ∙ drop-append-add (joined (take i pages)) (p ++ joined (drop (i + 1) pages)) (at % 65536) ∙ drop-append-le (at % 65536) p (joined (drop (i + 1) pages)) low in
    sym (ap (take n) rest ∙ take-append-le n _ _ (rw length-drop (omega arith)))

-- a write in one page
pub page_overwritten : (pages : List (List ℕ)) (at : ℕ) (new d : List ℕ) → ArePages pages → at / 65536 < length pages → at % 65536 + length new ≤ 65536
    → joined (set pages (at / 65536) (overwritten (get_or pages (at / 65536) d) (at % 65536) new)) ≡ overwritten (joined pages) at new
page_overwritten pages at new d whole lt fits =
    let i = at / 65536 in
    let p = get_or pages i d in
    let size : length p ≡ 65536 = All-get_or IsPage pages i d lt whole in
    let sum : length (joined (take i pages)) + at % 65536 ≡ at = rw (before pages i whole (omega arith)) (omega arith) in
    let within : at % 65536 + length new ≤ length p = omega arith in
    let more : i + 1 ≡ suc i = omega arith in
    let all = set_split pages i (overwritten p (at % 65536) new) lt in
    ap joined all ∙ joined-append (take i pages) (overwritten p (at % 65536) new ∷ drop (suc i) pages) ∙ overwritten_inside (joined (take i pages)) p (joined (drop (suc i) pages)) new (at % 65536) within
    ∙ rw (sum, split pages i d lt, more) refl

pub still_pages : (pages : List (List ℕ)) (at : ℕ) (new d : List ℕ) → ArePages pages → at / 65536 < length pages → at % 65536 + length new ≤ 65536
    → ArePages (set pages (at / 65536) (overwritten (get_or pages (at / 65536) d) (at % 65536) new))
still_pages pages at new d whole lt fits =
    let size : length (get_or pages (at / 65536) d) ≡ 65536 = All-get_or IsPage pages (at / 65536) d lt whole in
    All-set IsPage pages (at / 65536) _ (length-overwritten (get_or pages (at / 65536) d) (at % 65536) new (omega arith) ∙ size) whole

-- new pages
abbrev pub AreNew : List (List ℕ) → ℕ → Type 0
AreNew pages n = (joined pages ≡ zeros (n * 65536)) × (length pages ≡ n) × ArePages pages

pub no_pages : (pages : List (List ℕ)) → pages ≡ [] → AreNew pages 0
unfolding zeros
no_pages pages empty = rw empty (refl, refl, All-nil IsPage)

pub one_more : (pages all : List (List ℕ)) (p : List ℕ) (k : ℕ) → AreNew pages k → p ≡ zeros 65536 → all ≡ pages ++ p ∷ [] → AreNew all (k + 1)
unfolding zeros
one_more pages all p k are one is =
    let z : ℕ = 0 in
    let sum : k * 65536 + 65536 ≡ (k + 1) * 65536 = omega arith in
    let page : IsPage p = ap length one ∙ length-replicate 65536 z in
    rw is (
      joined-append pages (p ∷ []) ∙ rw (are.0, one, append-nil) (replicate-append-replicate (k * 65536) 65536 0 ∙ ap (λ n. replicate n 0) sum),
      length-append pages (p ∷ []) ∙ ap (λ n. n + 1) are.1,
      All-append IsPage pages (p ∷ []) are.2 (All-cons IsPage p [] page (All-nil IsPage)),
    )

-- the pages are those of before, with other bytes from an address on
abbrev pub Wrote : List (List ℕ) → ℕ → List ℕ → List (List ℕ) → Type 0
Wrote old at new pages = (joined pages ≡ overwritten (joined old) at new) × ArePages pages

pub nothing_wrote : (pages : List (List ℕ)) (at : ℕ) → ArePages pages → Wrote pages at [] pages
nothing_wrote pages at whole = (sym (overwritten_nil (joined pages) at), whole)

pub wrote_more : (old pages : List (List ℕ)) (at done : ℕ) (a b d page : List ℕ) → ArePages old → length pages ≡ length old → Wrote old at a pages → length a ≡ done
    → at + done + length b ≤ length old * 65536 → (at + done) % 65536 + length b ≤ 65536 → 0 < length b
    → page ≡ overwritten (get_or pages ((at + done) / 65536) d) ((at + done) % 65536) b → Wrote old at (a ++ b) (set pages ((at + done) / 65536) page)
wrote_more old pages at done a b d page whole same wrote size fits inside some is =
    let i = (at + done) / 65536 in
    let k = (at + done) % 65536 in
    let lt : i < length pages = omega arith in
    let all : at + done + length b ≤ length (joined old) = rw (length-joined old whole) fits in (
      ap (λ x. joined (set pages i x)) is ∙ page_overwritten pages (at + done) b d wrote.1 lt inside ∙ ap (λ x. overwritten x (at + done) b) wrote.0 ∙ overwritten_more (joined old) at a b done size all,
      let P : List ℕ → Type 0 = λ x. ArePages (set pages i x) in subst P (sym is) (still_pages pages (at + done) b d wrote.1 lt inside),
    )

-- bytes that are read into a list, from its begin on
pub read_more : (pages : List (List ℕ)) (first bytes new : List ℕ) (at done n : ℕ) → ArePages pages → bytes ≡ overwritten first 0 (take done (drop at (joined pages))) → new ≡ take n (drop (at + done) (joined pages))
    → done + n ≤ length first → at + length first ≤ length pages * 65536 → overwritten bytes done new ≡ overwritten first 0 (take (done + n) (drop at (joined pages)))
read_more pages first bytes new at done n whole was is fits within =
    let J = joined pages in
    let all : length J ≡ length pages * 65536 = length-joined pages whole in
    let size : length (take done (drop at J)) ≡ done = length-take-le done (drop at J) (rw (length-drop, all) (omega arith)) in
    let size' : length (take n (drop (at + done) J)) ≡ n = length-take-le n (drop (at + done) J) (rw (length-drop, all) (omega arith)) in
    let from : 0 + done ≡ done = omega arith in
    let room : 0 + done + length (take n (drop (at + done) J)) ≤ length first = rw size' (omega arith) in
    rw (was, is) (ap (λ k. overwritten (overwritten first 0 (take done (drop at J))) k (take n (drop (at + done) J))) (sym from)
    ∙ overwritten_more first 0 (take done (drop at J)) (take n (drop (at + done) J)) done size room ∙ ap (overwritten first 0) (part_more J at done n))

pub all_read : (pages : List (List ℕ)) (first : List ℕ) (at done : ℕ) → ArePages pages → at + length first ≤ length pages * 65536 → done ≡ length first
    → overwritten first 0 (take done (drop at (joined pages))) ≡ take (length first) (drop at (joined pages))
all_read pages first at done whole within all =
    let size : length (joined pages) ≡ length pages * 65536 = length-joined pages whole in
    let full : length (take (length first) (drop at (joined pages))) ≡ length first = length-take-le (length first) (drop at (joined pages)) (rw (length-drop, size) (omega arith)) in
    rw all (overwritten_all first (take (length first) (drop at (joined pages))) full)

-- one page was written
pub page_wrote : (pages : List (List ℕ)) (page d new : List ℕ) (at : ℕ) → ArePages pages → at / 65536 < length pages → at % 65536 + length new ≤ 65536
    → page ≡ overwritten (get_or pages (at / 65536) d) (at % 65536) new → Wrote pages at new (set pages (at / 65536) page)
page_wrote pages page d new at whole lt fits is = (
  ap (λ x. joined (set pages (at / 65536) x)) is ∙ page_overwritten pages at new d whole lt fits,
  let P : List ℕ → Type 0 = λ x. ArePages (set pages (at / 65536) x) in subst P (sym is) (still_pages pages at new d whole lt fits),
)

-- bytes were moved inside a page
pub page_shifted : (pages : List (List ℕ)) (d page : List ℕ) (to from n : ℕ) → ArePages pages → to / 65536 ≡ from / 65536 → to / 65536 < length pages → to % 65536 + n ≤ 65536 → from % 65536 + n ≤ 65536
    → page ≡ overwritten (get_or pages (to / 65536) d) (to % 65536) (take n (drop (from % 65536) (get_or pages (to / 65536) d))) → Wrote pages to (take n (drop from (joined pages))) (set pages (to / 65536) page)
page_shifted pages d page to from n whole same lt fits_to fits_from is =
    let lt' : from / 65536 < length pages = omega arith in
    let part : take n (drop (from % 65536) (get_or pages (to / 65536) d)) ≡ take n (drop from (joined pages)) =
    ap (λ i. take n (drop (from % 65536) (get_or pages i d))) same ∙ part_of_page pages from n d whole lt' fits_from in
    let size : length (take n (drop from (joined pages))) ≡ n = length-take-le n (drop from (joined pages)) (rw (length-drop, length-joined pages whole) (omega arith)) in
    page_wrote pages page d (take n (drop from (joined pages))) to whole lt (rw size fits_to) (is ∙ ap (overwritten (get_or pages (to / 65536) d) (to % 65536)) part)
