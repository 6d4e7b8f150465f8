-- How many functions a member has, by those that its numbers name.
use Rattle.std.proofs.Common.{◌≡◌, ◌⊎◌, ℕ, ◌<◌, ◌≤◌, List, [], length, slice_get, Option, Some, None, refl, sym, ap, ◌∙◌, subst, arith, inl, inr}
use Rattle.std.specs.Prelude.{unwrap_or, is_some, IsTrue}
use Rattle.std.proofs.lemmas.Bool.{cases_lt, true≢false}
use Rattle.std.proofs.lemmas.Option.{slice_get_past, slice_get-get_or}
use Rattle.spec_merging.specs.wasm_form.declared.module.Module.{Module}
use Rattle.spec_merging.specs.wasm_form.declared.runtime.Ref.{Ref}
use Rattle.spec_merging.specs.wasm_form.declared.runtime.Ref.TheVariants.{Own}
use Rattle.spec_traces.specs.spec_hosts.spec_binary.Options.{◌>>=◌}
use Rattle.spec_traces.specs.spec_hosts.spec_binary.IndexSpaces as spaces
use Rattle.spec_traces.specs.spec_hosts.spec_binary.IndexSpaces.{function_space}
use Rattle.spec_linking.specs.Sets.{Member}
use Rattle.spec_linking.specs.Gathering.{IsSet}
use Rattle.spec_linking.specs.Imports.{importing}
use Rattle.spec_linking.specs.LinkedSets.{LinkedSet, function_ref, ref_with}
use Rattle.spec_linking.specs.Links.{Links}
use Rattle.dyl_link.specs.Sets.{functions_in}
use Rattle.dyl_link.specs.Functions.{AreFunctions}
use Rattle.dyl_link.specs.Laws.{FunctionsAreThere}

-- the function that a number of a member names, by the type that it has there
abbrev named_with : LinkedSet → ℕ → ℕ → Module → Option ℕ → Option Ref
named_with L m f wasm index = (index >>= λ t. slice_get wasm.types t) >>= λ ty. ref_with L m f (slice_get (importing spaces.functions_in wasm.imports) f) (Own m f)

-- past them no number names one
none_past : (L : LinkedSet) (m f : ℕ) → functions_in L m ≤ f → function_ref L m f ≡ None
none_past L m f past = go (slice_get L.set.members m) refl past
  where
    go : (o : Option Member) → slice_get L.set.members m ≡ o → unwrap_or ((o >>= λ x. Some x.wasm) >>= λ wasm. Some (length (function_space wasm))) 0 ≤ f → function_ref L m f ≡ None
    go None e le = rw e refl
    go (Some x) e le = rw e (ap (named_with L m f x.wasm) (slice_get_past (function_space x.wasm) f le))

some_or_none : {A : Type 0} (o : Option A) (x : A) → o ≡ Some x → o ≡ None → ⊥
some_or_none o x some none = absurd cc

none_there : (o : Option Ref) → o ≡ None → IsTrue (is_some o) → ⊥
none_there o none there = true≢false (sym (subst (λ (x : Option Ref). IsTrue (is_some x)) none there))

module _ (L : LinkedSet) (shape : IsSet L.set) (links : Links L) (there : FunctionsAreThere) (functions : List (List Ref)) (are : AreFunctions L functions) (m : ℕ) where
  some_are : (refs : List Ref) → slice_get functions m ≡ Some refs → length refs ≡ functions_in L m
  some_are refs at = go (cases_lt (length refs) (functions_in L m)) (cases_lt (functions_in L m) (length refs))
    where
      reads : (f : ℕ) → slice_get refs f ≡ function_ref L m f
      reads f = ap (λ (o : Option (List Ref)). o >>= λ fs. slice_get fs f) (sym at) ∙ are.names m f

      go : (length refs < functions_in L m) ⊎ (functions_in L m ≤ length refs) → (functions_in L m < length refs) ⊎ (length refs ≤ functions_in L m) → length refs ≡ functions_in L m
      go (inl less) other =
          absurd (none_there (function_ref L m (length refs)) (sym (reads (length refs)) ∙ slice_get_past refs (length refs) (omega arith)) (there L shape links m (length refs) less))
      go (inr le) (inl more) =
          absurd (some_or_none (slice_get refs (functions_in L m)) _ (slice_get-get_or refs (functions_in L m) (Own 0 0) more) (reads (functions_in L m) ∙ none_past L m (functions_in L m) (omega arith)))
      go (inr le) (inr ge) = omega arith

  none_are : slice_get functions m ≡ None → 0 ≡ functions_in L m
  none_are at = go (cases_lt m (length functions))
    where
      go : (m < length functions) ⊎ (length functions ≤ m) → 0 ≡ functions_in L m
      go (inl less) = absurd (some_or_none (slice_get functions m) _ (slice_get-get_or functions m [] less) at)
      go (inr le) = (let past = slice_get_past L.set.members m (omega (arith, are.count)) in rw past refl)

  -- as many as are listed
  pub count_is : length (unwrap_or (slice_get functions m) []) ≡ functions_in L m
  count_is = go (slice_get functions m) refl
    where
      go : (o : Option (List Ref)) → slice_get functions m ≡ o → length (unwrap_or o []) ≡ functions_in L m
      go None e = none_are e
      go (Some refs) e = some_are refs e
