-- What the lists of a linked set tell of it.
use Rattle.std.proofs.Common.{◌≡◌, ℕ, zero, suc, ◌<◌, List, [], ◌∷◌, length, Option, Some, None, slice_get, refl, ap, sym, ◌∙◌, arith}
use Rattle.std.proofs.lemmas.Option.{slice_get_within}
use Rattle.wasm_form.specs.declared.runtime.Ref.{Ref}
use Rattle.wasm_form.specs.declared.runtime.Ref.TheVariants.{Own}
use Rattle.spec_loading.specs.spec_binary.Options.{◌>>=◌}
use Rattle.spec_loading.specs.spec_binary.IndexSpaces.{functions_in}
use Rattle.spec_loading.specs.spec_binary.Indices.{function_type}
use Rattle.spec_loading.specs.spec_linking.Imports.{importing}
use Rattle.spec_loading.specs.spec_linking.Sets.{Member}
use Rattle.spec_loading.specs.spec_linking.LinkedSets.{LinkedSet, function_ref, ref_with}
use Rattle.dyl_slots.specs.Given.{AllAt}
use Rattle.dyl_link.specs.Functions.{AreFunctions}
use Rattle.dyl_link.specs.Steps.{AreNamed, AreAllOf}
use Rattle.dyl_slots.specs.declared.tables.Tables.{Tables}

inside : {A : Type 0} (xs : List A) (m : ℕ) → m < length xs → (y : A) × (slice_get xs m ≡ Some y)
inside [] m less = absurd (omega arith)
inside (x ∷ xs) zero less = (x, refl)
inside (x ∷ xs) (suc m) less = inside xs m (omega arith)

names_at : (L : LinkedSet) (functions : List (List Ref)) (m f : ℕ) (o : Option (List Ref)) → AllAt (AreNamed L) functions → slice_get functions m ≡ o → length functions ≡ length L.set.members
    → (o >>= λ refs. slice_get refs f) ≡ function_ref L m f
names_at L functions m f (Some refs) all at count = all m refs at f
names_at L functions m f None all at count = by (slice_get L.set.members m) refl
  where
    by : (x : Option Member) → slice_get L.set.members m ≡ x → None ≡ function_ref L m f
    by None e = sym (ap (λ (o : Option Member). (o >>= λ member. Some member.wasm) >>= λ wasm. function_type wasm f >>= λ ty. ref_with L m f (slice_get (importing functions_in wasm.imports) f) (Own m f)) e)
    by (Some x) e =
        let less = slice_get_within L.set.members m x e in
        let there = inside functions m (omega arith) in
        absurd (let q = sym there.1 ∙ at in cc)

pub are_functions : (L : LinkedSet) (functions : List (List Ref)) (t : Tables) → AreAllOf L functions t → AreFunctions L functions
are_functions L functions t are = record { count = are.count; names = λ m f. names_at L functions m f (slice_get functions m) are.names refl are.count }
