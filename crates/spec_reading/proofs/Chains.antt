-- Sections one after the other are read as they are spelled.
use Rattle.std.proofs.Common.{◌≡◌, ◌≢◌, ℕ, zero, suc, ◌+◌, ◌≤◌, List, [], ◌∷◌, ◌++◌, length, Ok, Err, refl, sym, ap, subst, ◌∙◌, append_assoc, arith, inl, inr, length-append}
use Rattle.std.specs.List.{All}
use Rattle.spec_binary.specs.wasm_form.declared.module.Code.{Code}
use Rattle.spec_binary.specs.Sections.{Progress, Contents, custom, types, imports, funcs, tables, memories, globals, exports, start, elems, data_count, codes, datas, IsSection, section, Chain, done, next}
use Rattle.spec_binary.specs.declared.fault.DecodeFault.{DecodeFault}
use Rattle.spec_binary.specs.Saturated.{saturated}
use Rattle.spec_reading.specs.Bodies.{Room}
use Rattle.spec_reading.specs.Sections.{section_at, chain_at}
use Rattle.spec_reading.proofs.Steps.{bind_ok, bind_err, ok_is}
use Rattle.spec_reading.proofs.Bodies.{Keeps}
use Rattle.spec_reading.proofs.Contents.{HasRoom}
use Rattle.spec_reading.proofs.FramedSections.{section_complete, section_sound}

-- behind the code section no section changes the bodies
codes_stay : (s : Progress) (id : ℕ) (w : List ℕ) (t : Progress) → Contents s id w t → 11 ≤ s.last → (11 ≤ t.last) × (t.fields.codes ≡ s.fields.codes)
codes_stay _ _ _ _ (custom bytes p) late = (late, refl)
codes_stay _ _ _ _ (types l p) late = absurd (omega arith)
codes_stay _ _ _ _ (imports l p) late = absurd (omega arith)
codes_stay _ _ _ _ (funcs l p) late = absurd (omega arith)
codes_stay _ _ _ _ (tables l p) late = absurd (omega arith)
codes_stay _ _ _ _ (memories l p) late = absurd (omega arith)
codes_stay _ _ _ _ (globals l p) late = absurd (omega arith)
codes_stay _ _ _ _ (exports l p) late = absurd (omega arith)
codes_stay _ _ _ _ (start l p) late = absurd (omega arith)
codes_stay _ _ _ _ (elems l p) late = absurd (omega arith)
codes_stay _ _ _ _ (data_count l p) late = absurd (omega arith)
codes_stay _ _ _ _ (codes l p) late = absurd (omega arith)
codes_stay _ _ _ _ (datas l p) late = (omega arith, refl)

-- so the bodies of a module have room as soon as they are read
pub had_room : (room : Room) (s : Progress) (k : ℕ) (w : List ℕ) (t : Progress) → Chain s k w t → HasRoom room t → 11 ≤ s.last → HasRoom room s
had_room room _ _ _ _ done h late = h
had_room room s _ _ u (next {t} {k} {id} {contents} {v} f c p) h late =
    let stay = codes_stay s id contents t c late in
    subst (λ (cs : List Code). All (Keeps room) cs) stay.1 (had_room room t k v u p h stay.0)

-- a section has a byte at least
pub chain_length : {s t : Progress} {k : ℕ} {w : List ℕ} → Chain s k w t → k ≤ length w
chain_length done = omega arith
chain_length (next {k} {v} (section {id} {size} {contents} n) c p) =
    let h = chain_length p in
    let l : length (id ∷ (size ++ contents) ++ v) ≡ suc (length ((size ++ contents) ++ v)) = refl in
    omega (arith, length-append (size ++ contents) v)

-- k sections and then more of them
pub chain_join : {s t u : Progress} {k j : ℕ} {w v : List ℕ} → Chain s k w t → Chain t j v u → (n : ℕ) → n ≡ k + j → Chain s n (w ++ v) u
chain_join {u} {j} {v} (done {s}) q n e = let same : j ≡ n = omega arith in subst (λ n. Chain s n v u) same q
chain_join (next f c p) q zero e = absurd (omega arith)
chain_join {s} {u} {v = x} (next {w} {v} f c p) q (suc m) e = subst (λ l. Chain s (suc m) l u) (sym (append_assoc w v x)) (next f c (chain_join p q m (omega arith)))

module _ (room : Room) where
  -- sections in front of a rest are read, and reading goes on with it
  pub chain_complete : {s t : Progress} {k : ℕ} {w : List ℕ} → Chain s k w t → HasRoom room t → (count total fuel more : ℕ) → total ≡ count + k → more ≡ k + fuel → (rest : List ℕ)
      → chain_at room more count s (w ++ rest) ≡ chain_at room fuel total t rest
  unfolding chain_at
  chain_complete done h count total fuel more e f rest = let a : more ≡ fuel = omega arith in let b : count ≡ total = omega arith in rw (a, b) refl
  chain_complete (next p c q) h count total fuel zero e f rest = absurd (omega arith)
  chain_complete {s} {t = u} (next {t} {k} {id} {contents} {w} {v} (section {size} n) c q) h count total fuel (suc more) e f rest =
      let keeps : 11 ≤ t.last → HasRoom room t = had_room room t k v u q h in
      rw (append_assoc (size ++ contents) v rest, section_complete (saturated count) room s id contents (id ∷ size ++ contents) t (section n) c keeps (v ++ rest))
      (chain_complete q h (suc count) total fuel more (omega arith) (omega arith) rest)

-- sections that take all of a text
pub record TakesChain (room : Room) (s : Progress) (text : List ℕ) (t : Progress) : Type 0 where
  pub count : ℕ
  pub chain : Chain s count text t
  pub keeps : HasRoom room s → HasRoom room t

pub chain_sound : (room : Room) (fuel count : ℕ) (s : Progress) (text : List ℕ) (t : Progress) → chain_at room fuel count s text ≡ Ok t → TakesChain room s text t
unfolding chain_at
chain_sound room fuel count s [] t e = subst (TakesChain room s []) (ok_is DecodeFault s t e) (record { count = 0; chain = done; keeps = λ h. h })
chain_sound room zero count s (b ∷ bs) t e = absurd cc
chain_sound room (suc fuel) count s (b ∷ bs) t e =
    let a = bind_ok (section_at room (saturated count) s (b ∷ bs)) _ t e in
    let c = section_sound (saturated count) room s (b ∷ bs) a.0.0 a.0.1 a.1 in
    let others = chain_sound room fuel (suc count) a.0.0 a.0.1 t a.2 in
    record { count = suc others.count; chain = subst (λ l. Chain s (suc others.count) l t) (sym c.parts) (next c.framed c.means.0 others.chain); keeps = λ h. others.keeps (c.means.1 h) }

-- sections in front of a place where no section is read
pub record ChainEnds (room : Room) (count : ℕ) (s : Progress) (text : List ℕ) (e : DecodeFault) : Type 0 where
  pub more : ℕ
  pub word : List ℕ
  pub rest : List ℕ
  pub end : Progress
  pub chain : Chain s more word end
  pub parts : text ≡ word ++ rest
  pub some : rest ≢ []
  pub keeps : HasRoom room s → HasRoom room end
  pub ends : section_at room (saturated (count + more)) end rest ≡ Err e

shorter : (text word rest : List ℕ) (id fuel : ℕ) (contents : List ℕ) → IsSection id contents word → text ≡ word ++ rest → length text ≤ suc fuel → length rest ≤ fuel
shorter text _ rest id fuel _ (section {size} {contents} n) e l =
    let same : length text ≡ suc (length ((size ++ contents) ++ rest)) = ap length e in
    omega (arith, length-append (size ++ contents) rest)

pub chain_end : (room : Room) (fuel count : ℕ) (s : Progress) (text : List ℕ) (e : DecodeFault) → length text ≤ fuel → chain_at room fuel count s text ≡ Err e → ChainEnds room count s text e
unfolding chain_at
chain_end room fuel count s [] e l h = absurd cc
chain_end room zero count s (b ∷ bs) e l h = absurd (omega arith)
chain_end room (suc fuel) count s (b ∷ bs) e l h = elim (bind_err (section_at room (saturated count) s (b ∷ bs)) _ e h) [
  | inl p ↦
      let same : count ≡ count + 0 = omega arith in
      record {
        more = 0;
        word = [];
        rest = b ∷ bs;
        end = s;
        chain = done;
        parts = refl;
        some = λ q. absurd cc;
        keeps = λ h. h;
        ends = subst (λ n. section_at room (saturated n) s (b ∷ bs) ≡ Err e) same p;
      }
  | inr a ↦
      let c = section_sound (saturated count) room s (b ∷ bs) a.0.0 a.0.1 a.1 in
      let others = chain_end room fuel (suc count) a.0.0 a.0.1 e (shorter (b ∷ bs) c.word a.0.1 c.id fuel c.contents c.framed c.parts l) a.2 in
      let same : suc count + others.more ≡ count + suc others.more = omega arith in
      record {
        more = suc others.more;
        word = c.word ++ others.word;
        rest = others.rest;
        end = others.end;
        chain = next c.framed c.means.0 others.chain;
        parts = c.parts ∙ ap (λ l. c.word ++ l) others.parts ∙ sym (append_assoc c.word others.word others.rest);
        some = others.some;
        keeps = λ h. others.keeps (c.means.1 h);
        ends = subst (λ n. section_at room (saturated n) others.end others.rest ≡ Err e) same others.ends;
      }
]
