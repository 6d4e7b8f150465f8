-- What is so of a linked set makes that its merged module can be written, and where there is little of it, no section of that is too long.
use Rattle.std.proofs.Common.{◌≡◌, ℕ, ◌+◌, ◌*◌, ◌^◌, ◌≤◌, ◌<◌, min, Ok, List, [], ◌∷◌, ◌++◌, length, take, get_or, refl, sym, ap, ◌∙◌, subst, arith}
use Rattle.std.specs.Prelude.{sum_by}
use Rattle.std.proofs.Math.Nat.{pow-le-pow_left}
use Rattle.std.specs.List.{All}
use Rattle.std.proofs.lemmas.List.{take_more}
use Rattle.std.proofs.lemmas.List.Elements.{All-nil, All-cons, All-tail, All-append}
use Rattle.std.proofs.lemmas.List.Sums.{sum_by-append}
use Rattle.wasm_form.specs.declared.types.FuncType.{FuncType}
use Rattle.wasm_form.specs.declared.module.Module.{Module}
use Rattle.spec_reading.specs.spec_binary.Number.{IsShortest}
use Rattle.spec_reading.specs.spec_binary.Modules.{SpellsModule}
use Rattle.spec_reading.specs.spec_binary.WellFormed.{IsFormedType, IsWellFormed}
use Rattle.spec_reading.specs.spec_binary.DecodeAnswers as answers
use Rattle.spec_reading.specs.spec_binary.DecodeAnswers.{DecodeAnswer}
use Rattle.spec_reading.specs.Laws.{OneModule}
use Rattle.spec_loading.specs.spec_linking.Sets.{Member}
use Rattle.spec_loading.specs.spec_linking.Gathering.{total_size}
use Rattle.spec_loading.specs.spec_linking.LinkedSets.{LinkedSet}
use Rattle.wasm_encode.specs.SectionSizes.{IsFirstTooLong}
use Rattle.wasm_encode.specs.Weight.{weight}
use Rattle.merge_module.specs.MergedModule.{members_types, generated_functions_types, added_types, merged_module}
use Rattle.merge_module.specs.Shape.{HasShape}
use Rattle.merge_module.specs.Laws.{IsMergeable, MergedStands, SpelledMerges, MergedIsFormed, MergedHasShape, types_bulk, names_bulk, most_weight, MergedIsInLine, IsBrief, MergedIsShort}
use Rattle.merge_index.proofs.FewItems.{total_cons}
use Rattle.merge_whole.specs.Counts.{sizes}
use Rattle.merge_whole.specs.Merges.{most_bytes, Merges, bulk_of, bulk, IsTooLongFor}
use Rattle.merge_whole.proofs.ShortFits.{never_first_long}

all_later : {A : Type 0} (P : A → Type 0) (xs ys : List A) → All P (xs ++ ys) → All P ys
all_later P [] ys all = all
all_later P (x ∷ xs) ys all = all_later P xs ys (All-tail P x (xs ++ ys) all)

-- bytes are decoded to a well formed module that they spell
pub is_decoded : (m : Module) (bytes : List ℕ) → SpellsModule m bytes → IsWellFormed m → DecodeAnswer bytes (Ok m)
is_decoded m bytes spelled formed = answers.spelled spelled (λ k c here. (formed.codes.1 k c here).limits) formed.counts

-- ---- how much there is

abbrev named_size : List Member → ℕ
named_size ms = sum_by (λ (m : Member). length m.name) ms

names_cons : (x : Member) (xs : List Member) → named_size (x ∷ xs) ≡ length x.name + named_size xs
names_cons x xs =
    let none : 0 + length x.name ≡ length x.name = omega arith in
    sum_by-append (λ (m : Member). length m.name) (x ∷ []) xs ∙ ap (λ k. k + named_size xs) none

names_are : (ms : List Member) → names_bulk ms ≡ named_size ms
names_are [] = refl
names_are (m ∷ ms) = (let later = names_are ms in let sum = names_cons m ms in omega arith)

pub sizes_are : (ms : List Member) → sizes ms ≡ total_size ms + named_size ms
sizes_are [] = refl
sizes_are (m ∷ ms) = (let later = sizes_are ms in let one = names_cons m ms in let two = total_cons m ms in omega arith)

pub square_few : (n : ℕ) → n ≤ 256 → n ^ 2 ≤ 65536
square_few n le = (let squared = pow-le-pow_left le 2 in omega arith)

-- so it can be told by the bounded sum
pub bulk_is : (ms : List Member) (size square : ℕ) → size ≡ min (sizes ms) 16777216 → square ≡ length ms ^ 2
    → min (256 * size + 64 * square) 4294967296 ≡ min (bulk_of ms) 4294967296
bulk_is ms size square one two = (let all = sizes_are ms in omega arith)

in_all : (weighs most n : ℕ) → weighs ≤ most → n ≤ 16 * weighs + 256 → n ≤ 16 * most + 256
in_all weighs most n le few = omega arith

-- ---- a set

module _ (L : LinkedSet) (mergeable : IsMergeable L) where
  pub formed : MergedIsFormed → (m : Module) → m ≡ merged_module L → All IsFormedType m.types → IsWellFormed m
  formed law m same types =
      let all = subst (λ (w : Module). All IsFormedType w.types) same types in
      let behind = all_later IsFormedType (members_types L) (generated_functions_types L ++ added_types L) all in
      subst IsWellFormed (sym same) (law L mergeable (all_later IsFormedType (generated_functions_types L) (added_types L) behind))

  -- how many bytes are written
  most_is : (n : ℕ) → n ≤ 16 * most_weight L + 256 → n ≤ most_bytes L
  most_is n few = (let names = names_are L.set.members in omega arith)

  few_bytes : MergedIsInLine → (m : Module) → m ≡ merged_module L → (n : ℕ) → n ≤ 16 * weight m + 256 → n ≤ most_bytes L
  few_bytes light m same n few =
      let all = subst (λ (w : Module). weight w ≤ most_weight L) (sym same) (light L mergeable) in
      most_is n (in_all (weight m) (most_weight L) n all few)

  pub merges : OneModule → SpelledMerges → MergedHasShape → MergedIsInLine → (m : Module) → m ≡ merged_module L → IsWellFormed m → (bytes : List ℕ)
      → IsShortest (SpellsModule m) bytes → length bytes ≤ 16 * weight m + 256 → Merges L bytes
  merges one law shape light m same form bytes written few =
      let shortest : IsShortest (SpellsModule (merged_module L)) bytes = subst (λ w. IsShortest (SpellsModule w) bytes) same written in
      let whole = law L mergeable bytes shortest.spelled in
      let is = one (merged_module L) whole.wasm bytes shortest.spelled whole.spelled in
      record {
        merged = whole;
        shape = subst (HasShape L) is (shape L mergeable);
        decoded = is_decoded whole.wasm bytes whole.spelled (subst IsWellFormed (same ∙ is) form);
        shortest = shortest;
        size = few_bytes light m same (length bytes) few;
      }

  -- where a section is too long, it is that of the merged module, which stands for the set
  pub too_long : MergedStands → MergedHasShape → (id : ℕ) → IsFirstTooLong (merged_module L) id → 2 ^ 32 ≤ bulk L → IsTooLongFor L id
  too_long stands shape id first big = record { stands = stands L mergeable; shape = shape L mergeable; first = first; big = big }

  -- no section is too long where there is little of the set
  pub little_fits : MergedIsShort → bulk L < 2 ^ 32 → types_bulk (added_types L) ≤ 33554432 → (id : ℕ) → IsFirstTooLong (merged_module L) id → ⊥
  little_fits law little few id too =
      let named = names_are L.set.members in
      let brief : IsBrief L = record { types = few; names = omega arith } in
      never_first_long (merged_module L) (law L mergeable brief) refl id too

-- ---- types that can be written

pub types_next : (tys : List FuncType) (i : ℕ) (ty : FuncType) → i < length tys → ty ≡ get_or tys i ty → IsFormedType ty
    → All IsFormedType (take i tys) → All IsFormedType (take (i + 1) tys)
types_next tys i ty lt is here before =
    subst (All IsFormedType) (sym (take_more tys i ty lt ∙ ap (λ (x : FuncType). take i tys ++ x ∷ []) (sym is)))
    (All-append IsFormedType (take i tys) (ty ∷ []) before (All-cons IsFormedType ty [] here (All-nil IsFormedType)))
