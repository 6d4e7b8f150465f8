-- Each custom section stands behind a section of its rank, and no rank falls.
use Rattle.std.proofs.Common.{◌≡◌, ◌≢◌, ℕ, ◌<◌, ◌≤◌, List, [], ◌∷◌, ◌++◌, subst, arith, inl, inr}
use Rattle.std.specs.Prelude.{◌⊎◌, All}
use Rattle.std.proofs.lemmas.List.Elements.{All-push, All-head, All-tail, All-weaker}
use Rattle.spec_binary.specs.wasm_form.declared.module.Custom.{Custom}
use Rattle.spec_binary.specs.wasm_form.declared.module.Module.{Module}
use Rattle.spec_binary.specs.Sections.{rank_with}
use Rattle.spec_binary.specs.WellFormed.{IsShort, HasRank, types, imports, funcs, tables, memories, globals, exports, elems, codes, datas, ArePlaced, none, behind, first}

-- each list of the one module that isn't empty isn't empty in the other
pub record Keeps (m n : Module) : Type 0 where
  pub types : m.types ≢ [] → n.types ≢ []
  pub imports : m.imports ≢ [] → n.imports ≢ []
  pub funcs : m.funcs ≢ [] → n.funcs ≢ []
  pub tables : m.tables ≢ [] → n.tables ≢ []
  pub memories : m.memories ≢ [] → n.memories ≢ []
  pub globals : m.globals ≢ [] → n.globals ≢ []
  pub exports : m.exports ≢ [] → n.exports ≢ []
  pub elems : m.elems ≢ [] → n.elems ≢ []
  pub codes : m.codes ≢ [] → n.codes ≢ []
  pub datas : m.datas ≢ [] → n.datas ≢ []

-- a section of this rank is still not empty
rank_kept : {m n : Module} {rank : ℕ} → Keeps m n → HasRank m rank → HasRank n rank
rank_kept k (types h) = types (k.types h)
rank_kept k (imports h) = imports (k.imports h)
rank_kept k (funcs h) = funcs (k.funcs h)
rank_kept k (tables h) = tables (k.tables h)
rank_kept k (memories h) = memories (k.memories h)
rank_kept k (globals h) = globals (k.globals h)
rank_kept k (exports h) = exports (k.exports h)
rank_kept k (elems h) = elems (k.elems h)
rank_kept k (codes h) = codes (k.codes h)
rank_kept k (datas h) = datas (k.datas h)

placed_kept : {m n : Module} {rank : ℕ} {cs : List Custom} → Keeps m n → ArePlaced m rank cs → ArePlaced n rank cs
placed_kept k none = none
placed_kept k (behind le has short more) = behind le (rank_kept k has) short (placed_kept k more)
placed_kept k (first e short more) = first e short (placed_kept k more)

abbrev pub HasRankUpTo : ℕ → Custom → Type 0
HasRankUpTo rank c = c.rank ≤ rank

-- The custom sections are placed, none with a greater rank than this one; it is 0 or that of a section that isn't empty, and at most that
-- of the last section.
pub record AreRanked (m : Module) (customs : List Custom) (last rank : ℕ) : Type 0 where
  pub placed : ArePlaced m 0 customs
  pub bounded : All (HasRankUpTo rank) customs
  pub known : (rank ≡ 0) ⊎ HasRank m rank
  pub reached : rank ≤ last

-- a custom section alone
one_placed : (m : Module) (rank : ℕ) (c : Custom) → rank ≤ c.rank → (c.rank ≡ 0) ⊎ HasRank m c.rank → IsShort c.name → ArePlaced m rank (c ∷ [])
one_placed m rank c le (inr has) short = behind le has short none
one_placed m rank c le (inl e) short = let zero : 0 ≡ rank = omega arith in subst (λ r. ArePlaced m r (c ∷ [])) zero (first e short none)

-- custom sections, and one more of the greatest rank
placed_more : (m : Module) (rank : ℕ) (cs : List Custom) (c : Custom) → ArePlaced m rank cs → All (HasRankUpTo c.rank) cs → rank ≤ c.rank → (c.rank ≡ 0) ⊎ HasRank m c.rank → IsShort c.name → ArePlaced m rank (cs ++ c ∷ [])
placed_more m rank cs c none b le known short = one_placed m rank c le known short
placed_more m rank cs c (behind {c = d} {cs = ds} l has s more) b le known short = behind l has s (placed_more m d.rank ds c more (All-tail (HasRankUpTo c.rank) d ds b) (All-head (HasRankUpTo c.rank) d ds b) known short)
placed_more m rank cs c (first {c = d} {cs = ds} e s more) b le known short = first e s (placed_more m 0 ds c more (All-tail (HasRankUpTo c.rank) d ds b) le known short)

-- a custom section comes
pub custom_ranked : (m n : Module) (cs : List Custom) (last : ℕ) (c : Custom) → Keeps m n → IsShort c.name → AreRanked m cs last c.rank → AreRanked n (cs ++ c ∷ []) last c.rank
custom_ranked m n cs last c k short r = record {
  placed = placed_kept k (placed_more m 0 cs c r.placed r.bounded (omega arith) r.known short);
  bounded = All-push (HasRankUpTo c.rank) cs c r.bounded (omega arith);
  known = elim r.known [ inl e ↦ inl e | inr h ↦ inr (rank_kept k h) ];
  reached = r.reached;
}

-- a section comes whose rank isn't told: start or data count
pub passed_ranked : (m n : Module) (cs : List Custom) (last next rank : ℕ) → Keeps m n → last ≤ next → AreRanked m cs last rank → AreRanked n cs next rank
passed_ranked m n cs last next rank k le r = record {
  placed = placed_kept k r.placed;
  bounded = r.bounded;
  known = elim r.known [ inl e ↦ inl e | inr h ↦ inr (rank_kept k h) ];
  reached = let h = r.reached in omega arith;
}

-- a section with a list comes
pub list_ranked : {A : Type 0} (m n : Module) (cs : List Custom) (last next rank : ℕ) (xs : List A) → Keeps m n → (xs ≢ [] → HasRank n next) → last < next → AreRanked m cs last rank → AreRanked n cs next (rank_with rank next xs)
list_ranked m n cs last next rank [] k has lt r = passed_ranked m n cs last next rank k (omega arith) r
list_ranked m n cs last next rank (x ∷ xs) k has lt r = record {
  placed = placed_kept k r.placed;
  bounded = All-weaker (HasRankUpTo rank) (HasRankUpTo next) (λ c h. let l = r.reached in omega arith) cs r.bounded;
  known = inr (has (λ e. cc));
  reached = omega arith;
}
