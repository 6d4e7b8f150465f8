-- The code for the length of a string, and for the search of a member, does what is said of it, at whatever number of a module it stands.
use Rattle.std.proofs.Common.{◌≡◌, ℕ, zero, suc, ◌+◌, ◌*◌, ◌≤◌, min, List, [], ◌∷◌, length, drop, slice_get, Option, Some, None, unwrap_or, option_map, refl, sym, ap, ◌∙◌, subst, arith}
use Rattle.std.proofs.Math.Nat.{min-le_left, min-le_right, le-min}
use Rattle.wasm_form.specs.declared.module.Module.{Module}
use Rattle.wasm_form.specs.declared.runtime.Trap.TheVariants.{MemoryBounds}
use Rattle.wasm_form.specs.declared.runtime.Value.TheVariants.{Num}
use Rattle.spec_loading.specs.spec_binary.Options.{◌>>=◌}
use Rattle.spec_loading.specs.spec_runtime.Numerics.{W32}
use Rattle.spec_loading.specs.spec_execution.Values.{low}
use Rattle.spec_loading.specs.spec_linking.Sets.{Member}
use Rattle.spec_loading.specs.spec_linking.Gathering.{IsMember, IsSet}
use Rattle.spec_loading.specs.spec_linking.LinkedSets.{LinkedSet, wasm_of}
use Rattle.spec_loading.proofs.of_spec_binary.Lists.{holds_at}
use Rattle.spec_loading.proofs.of_spec_binary.Options.{went_on}
use Rattle.spec_loading.proofs.of_spec_binary.SpelledParts.{decoded_text}
use Rattle.spec_loading.specs.spec_linking.Links.{Links}
use Rattle.spec_loading.specs.LoaderAnswers.{string_at}
use Rattle.spec_loading.specs.SetCosts.{search_cost, exports_count}
use Rattle.spec_loading.specs.Members.{from_members}
use Rattle.merge_match.specs.Bounded.{IsBounded}
use Rattle.merge_start.specs.Words.{Starts}
use Rattle.merge_start.specs.Running.{Changing}
use Rattle.merge_start.proofs.Reaching.{does_more}
use Rattle.wasm_form.specs.declared.module.Part.{Part}
use Rattle.merge_find.specs.Finding.{first_named, search_steps, SearchFindsAny, SearchFinds}
use Rattle.merge_find.specs.Exports.{ExportsAreTexts, ExportsAreApart}
use Rattle.merge_find.specs.Typed.{BodyIsTyped}
use Rattle.merge_dl.specs.Words.{unary_type, search_type, name_numbers, length_code, length_body, find_body}
use Rattle.merge_dl.specs.Called.{HasFunction, CallGives, GivesLength, defined_number, search_value, SearchesMember, IsLengthPart, IsSearchPart, AreSearchParts}
use Rattle.merge_dl.specs.Listed.{starts_in, length_part, find_part, find_parts}
use Rattle.merge_dl.specs.Laws.{LengthsAreGiven, MembersAreSearched, MembersAreSearchedSoon, DefinedIsNumbered}
use Rattle.merge_dl.proofs.Sites.{Answers}
use Rattle.merge_dl.proofs.Calls.{call_gives, call_traps, does_within}
use Rattle.merge_dl.proofs.Lengths.{measured, measured_steps, measures}
use Rattle.merge_dl.proofs.Names.{string_lies}
use Rattle.merge_dl.proofs.Defined.{definition_numbered}
use Rattle.merge_dl.proofs.Searches.{finds_defined, numbers_few, words, texts, apart}
use Rattle.merge_dl.proofs.Typed.{length_height, find_height}

-- the code opens no member
abbrev no_starts : Starts
no_starts = starts_in (record { error = 0; guard = 0; first_function = 0; opens = []; promoted = 0 })

-- ---- the length of a string

module _ (merged : Module) (f : ℕ) (has : HasFunction merged f unary_type length_body) (c : Changing) (a : ℕ) where
  length_given : (o : Option (List ℕ))
      → Answers merged no_starts 0 (measured_steps (length (drop (low W32 a) c.memory.bytes)) o) length_code c (Num a ∷ Num 0 ∷ []) (measured c o) → GivesLength merged f c a o
  length_given None r = does_more (omega arith) (call_traps has (Num a ∷ []) (refl, λ rest. refl) MemoryBounds r)
  length_given (Some s) r = does_more (omega arith) (call_gives has (Num a ∷ []) (refl, λ rest. refl) (Num (length s)) r)

pub lengths_given : LengthsAreGiven
lengths_given merged f has = record {
  calls = λ c bounded a. length_given merged f has c a (string_at c.memory (low W32 a)) (measures merged 0 no_starts c bounded a);
}

-- ---- the search of a member

-- No more names are searched than the member exports.
searched_few : (bits few many k : ℕ) → few ≤ many → search_steps bits few k ≤ search_cost bits many k
searched_few bits few many k le =
    let less = min-le_left few (bits * k + 33) in
    let names : min few (bits * k + 33) ≤ min many (bits * k + 33) = le-min (omega (arith, less, le)) (min-le_right few (bits * k + 33)) in
    omega (arith, names)

named_few : (L : LinkedSet) (m : ℕ) (wasm : Module) → wasm_of L m ≡ Some wasm → length (name_numbers L m wasm) ≤ exports_count L m
named_few L m wasm found =
    let few = numbers_few L m wasm.exports in
    let many : exports_count L m ≡ length wasm.exports = ap (λ o. unwrap_or (option_map (λ (w : Module). length w.exports) o) 0) found in
    omega (arith, few, many)

pub members_searched : SearchFindsAny → MembersAreSearched
members_searched any L links m wasm found merged f has = record { calls = calls }
  where
    calls : (c : Changing) → IsBounded c.memory → (a : ℕ) (s : List ℕ) → string_at c.memory (low W32 a) ≡ Some s
        → CallGives merged (search_cost 32 (exports_count L m) (length s) + 4) f c (Num (length s) ∷ Num a ∷ []) (Num (search_value (defined_number L m s)))
    calls c bounded a s known =
        let r = any merged f (name_numbers L m wasm) has (words L m links wasm.exports) c.units c.memory a s (string_lies c.memory a s known bounded) in
        let few = searched_few 32 (length (name_numbers L m wasm)) (exports_count L m) (length s) (named_few L m wasm found) in
        let given : CallGives merged (search_cost 32 (exports_count L m) (length s) + 4) f c (Num (length s) ∷ Num a ∷ []) (Num (search_value (first_named (name_numbers L m wasm) s))) =
        does_more (omega (arith, few)) (does_within r) in
        subst (λ o. CallGives merged (search_cost 32 (exports_count L m) (length s) + 4) f c (Num (length s) ∷ Num a ∷ []) (Num (search_value o))) (finds_defined L m wasm found s) given

-- the names that a member of a set defines are of bytes, and no two of them are the same
module _ (soon : SearchFinds) (are_texts : ExportsAreTexts) (are_apart : ExportsAreApart) (L : LinkedSet) (set : IsSet L.set) (links : Links L) where
  searched_soon : (m : ℕ) (y : Member) → slice_get L.set.members m ≡ Some y → (merged : Module) (f : ℕ)
      → HasFunction merged f search_type (find_body L m y.wasm) → SearchesMember 8 L m merged f
  searched_soon m y at merged f has = record { calls = calls }
    where
      calls : (c : Changing) → IsBounded c.memory → (a : ℕ) (s : List ℕ) → string_at c.memory (low W32 a) ≡ Some s
          → CallGives merged (search_cost 8 (exports_count L m) (length s) + 4) f c (Num (length s) ∷ Num a ∷ []) (Num (search_value (defined_number L m s)))
      calls c bounded a s known =
          let read = (holds_at IsMember L.set.members m y set.members at).read in
          let spelled = decoded_text _ _ read.told y.wasm refl in
          let found : wasm_of L m ≡ Some y.wasm = ap (λ (o : Option Member). o >>= λ x. Some x.wasm) at in
          let r = soon merged f (name_numbers L m y.wasm) has (words L m links y.wasm.exports) (texts L m y.wasm.exports (are_texts y.wasm _ spelled))
          (apart L m y.wasm.exports (are_apart y.wasm read.valid)) c.units c.memory a s (string_lies c.memory a s known bounded) in
          let few = searched_few 8 (length (name_numbers L m y.wasm)) (exports_count L m) (length s) (named_few L m y.wasm found) in
          let given : CallGives merged (search_cost 8 (exports_count L m) (length s) + 4) f c (Num (length s) ∷ Num a ∷ []) (Num (search_value (first_named (name_numbers L m y.wasm) s))) =
          does_more (omega (arith, few)) (does_within r) in
          subst (λ o. CallGives merged (search_cost 8 (exports_count L m) (length s) + 4) f c (Num (length s) ∷ Num a ∷ []) (Num (search_value o))) (finds_defined L m y.wasm found s) given

pub members_searched_soon : SearchFinds → ExportsAreTexts → ExportsAreApart → MembersAreSearchedSoon
members_searched_soon soon are_texts are_apart L set links m wasm found merged f has =
    let y = went_on (slice_get L.set.members m) (λ (x : Member). Some x.wasm) wasm found in
    let same : y.0.wasm ≡ wasm = (let h = y.2 in cc) in
    searched_soon soon are_texts are_apart L set links m y.0 y.1 merged f (subst (λ w. HasFunction merged f search_type (find_body L m w)) (sym same) has)

pub defined_numbered : DefinedIsNumbered
defined_numbered L links m name = definition_numbered L links m name

-- ---- functions to be put into a module

pub length_works : IsLengthPart length_part
length_works = record {
  ty = refl;
  typed = λ c memory. length_height c memory;
  works = λ merged f has. lengths_given merged f has;
}

module _ (L : LinkedSet) where
  -- there is one for each member
  parts_many : (k : ℕ) (ms : List Member) → length (from_members (find_parts L) k ms) ≡ length ms
  parts_many k [] = refl
  parts_many k (y ∷ ms) = ap suc (parts_many (k + 1) ms)

  part_at : (k : ℕ) (ms : List Member) (m : ℕ) (p : Part) → slice_get (from_members (find_parts L) k ms) m ≡ Some p
      → (y : Member) × (slice_get ms m ≡ Some y) × (p ≡ find_part L (k + m) y.wasm)
  part_at k [] m p e = absurd cc
  part_at k (y ∷ ms) zero p e =
      let first : k ≡ k + 0 = omega arith in
      let same : p ≡ find_part L k y.wasm = cc in
      (y, refl, same ∙ ap (λ j. find_part L j y.wasm) first)
  part_at k (y ∷ ms) (suc m) p e =
      let next : k + 1 + m ≡ k + suc m = omega arith in
      let later = part_at (k + 1) ms m p e in
      (later.0, later.1, later.2 ∙ ap (λ j. find_part L j later.0.wasm) next)

  search_works : SearchFinds → ExportsAreTexts → ExportsAreApart → BodyIsTyped → IsSet L.set → Links L → (m : ℕ) (y : Member)
      → slice_get L.set.members m ≡ Some y → IsSearchPart L m (find_part L m y.wasm)
  search_works soon are_texts are_apart typed set links m y at = record {
    ty = refl;
    typed = λ c memory. find_height typed L m y.wasm c memory;
    works = λ merged f has. searched_soon soon are_texts are_apart L set links m y at merged f has;
  }

  module _ (parts : List Part) (is : parts ≡ from_members (find_parts L) 0 L.set.members) where
    -- each is that of its member
    of_member : (m : ℕ) (p : Part) → slice_get parts m ≡ Some p → (y : Member) × (slice_get L.set.members m ≡ Some y) × (p ≡ find_part L m y.wasm)
    of_member m p at =
        let first : 0 + m ≡ m = omega arith in
        let here = part_at 0 L.set.members m p (ap (λ (l : List Part). slice_get l m) (sym is) ∙ at) in
        (here.0, here.1, here.2 ∙ ap (λ j. find_part L j here.0.wasm) first)

    pub searches_work : SearchFinds → ExportsAreTexts → ExportsAreApart → BodyIsTyped → IsSet L.set → Links L → AreSearchParts L parts
    searches_work soon are_texts are_apart typed set links = record {
      count = ap length is ∙ parts_many 0 L.set.members;
      each = λ m p at.
          (let here = of_member m p at in subst (IsSearchPart L m) (sym here.2) (search_works soon are_texts are_apart typed set links m here.0 here.1));
    }
