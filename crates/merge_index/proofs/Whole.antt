-- What is kept stands for the numbers of the set.
use Rattle.std.proofs.Common.{◌≡◌, ℕ, ◌+◌, List, [], ◌∷◌, length, map, Option, refl, sym, ap, ap₂, ◌∙◌, arith}
use Rattle.std.proofs.Math.Path.{fun_ext}
use Rattle.std.proofs.lemmas.List.{length-map}
use Rattle.wasm_form.specs.declared.module.Module.{Module}
use Rattle.wasm_form.specs.declared.runtime.Ref.{Ref}
use Rattle.wasm_form.specs.declared.runtime.Ref.TheVariants.{Own, Loader, Host, Stub}
use Rattle.spec_loading.specs.spec_linking.Sets as sets
use Rattle.spec_loading.specs.spec_linking.LinkedSets.{LinkedSet}
use Rattle.spec_loading.specs.Addresses.{sum_before}
use Rattle.spec_loading.specs.Members.{uses_loader}
use Rattle.dyl_link.specs.Functions.{AreFunctions}
use Rattle.merge_match.specs.Renumbering.{Numbers}
use Rattle.merge_match.specs.Parts.{number_of}
use Rattle.merge_index.specs.Numbering.{host_count, first_stub, first_phase, loader_numbers, function_number, numbers_of}
use Rattle.merge_index.specs.Kept.{KeptNumbers, number_at, stub_number, call_in, numbers_in, function_in}
use Rattle.dyl_addresses.specs.Kept.{KeptAddresses, AreAddressesOf}
use Rattle.dyl_addresses.specs.Lists.{size_in, numbers_end, numbered}
use Rattle.spec_loading.specs.spec_binary.IndexSpaces.{imported_count}
use Rattle.merge_index.specs.declared.numbers.LoaderNumbers.{LoaderNumbers}
use Rattle.merge_index.specs.Lists.{Known, named_lists, all_stubs_end, loader_where, kept_of}
use Rattle.dyl_addresses.specs.declared.lists.Space.TheVariants.{Types, Codes}
use Rattle.dyl_addresses.specs.Sets.{wasms}
use Rattle.dyl_addresses.proofs.Items.{items_are}
use Rattle.merge_index.proofs.Stubs.{ended}
use Rattle.merge_index.proofs.FunctionNumbers.{owns, imports, own_is, called, named_is, stub_number_is}

same_numbers : (a b : Numbers) → ((r : Ref) → a.function r ≡ b.function r) → ((m f : ℕ) → a.named m f ≡ b.named m f)
    → ((m t : ℕ) → a.ty m t ≡ b.ty m t) → ((m g : ℕ) → a.global m g ≡ b.global m g) → ((m t : ℕ) → a.table m t ≡ b.table m t)
    → ((m e : ℕ) → a.elem m e ≡ b.elem m e) → ((m d : ℕ) → a.segment m d ≡ b.segment m d) → a ≡ b
same_numbers a b function named ty global table elem segment =
    ap (λ (x : Ref → ℕ). record a { function = x }) (fun_ext function)
    ∙ ap (λ (x : ℕ → ℕ → ℕ). record b { named = x; ty = a.ty; global = a.global; table = a.table; elem = a.elem; segment = a.segment }) (both named)
    ∙ ap (λ (x : ℕ → ℕ → ℕ). record b { ty = x; global = a.global; table = a.table; elem = a.elem; segment = a.segment }) (both ty)
    ∙ ap (λ (x : ℕ → ℕ → ℕ). record b { global = x; table = a.table; elem = a.elem; segment = a.segment }) (both global)
    ∙ ap (λ (x : ℕ → ℕ → ℕ). record b { table = x; elem = a.elem; segment = a.segment }) (both table)
    ∙ ap (λ (x : ℕ → ℕ → ℕ). record b { elem = x; segment = a.segment }) (both elem)
    ∙ ap (λ (x : ℕ → ℕ → ℕ). record b { segment = x }) (both segment)
  where
    both : {f g : ℕ → ℕ → ℕ} → ((m i : ℕ) → f m i ≡ g m i) → f ≡ g
    both h = fun_ext (λ m. fun_ext (h m))

pub total_is : (size : Module → ℕ) (start : ℕ) (xs : List sets.Member) → numbers_end size start (wasms xs) ≡ start + sum_before size xs (length xs)
total_is size start [] = omega arith
total_is size start (x ∷ xs) = total_is size (start + size x.wasm) xs ∙ omega arith

pub first_is : (L : LinkedSet) → numbers_end (size_in Codes) (host_count L) (wasms L.set.members) ≡ first_stub L
first_is L = total_is (size_in Codes) (host_count L) L.set.members

-- what is made list by list is what is kept
pub kept_is : (L : LinkedSet) (refs : List (List Ref)) (addresses : KeptAddresses) (hosts : ℕ) (ws : List Module)
    → hosts ≡ host_count L → ws ≡ wasms L.set.members
    → (own : List (List ℕ)) (imported : List ℕ) (first phase : ℕ) (loader : Option LoaderNumbers) (functions types : List (List ℕ)) (k : Known)
    → own ≡ numbered (size_in Codes) hosts ws → imported ≡ map imported_count ws → first ≡ numbers_end (size_in Codes) hosts ws
    → phase ≡ all_stubs_end first refs → loader ≡ loader_where (uses_loader L) phase (length L.set.members)
    → k ≡ record { owns = own; imported = imported; loader = loader } → functions ≡ named_lists k first refs
    → types ≡ numbered (size_in Types) 0 ws
    → record { functions = functions; owns = own; imported = imported; first_stub = first; first_phase = phase; loader = loader; types = types; addresses = addresses }
    ≡ kept_of L refs addresses
kept_is L refs addresses hosts ws many list own imported first phase loader functions types k p q r s t u v w =
    let a : own ≡ numbered (size_in Codes) (host_count L) (wasms L.set.members) = p ∙ ap₂ (λ n ms. numbered (size_in Codes) n ms) many list in
    let b : imported ≡ map imported_count (wasms L.set.members) = q ∙ ap (map imported_count) list in
    let f : first ≡ numbers_end (size_in Codes) (host_count L) (wasms L.set.members) = r ∙ ap₂ (λ n ms. numbers_end (size_in Codes) n ms) many list in
    let g : phase ≡ all_stubs_end (numbers_end (size_in Codes) (host_count L) (wasms L.set.members)) refs = s ∙ ap (λ n. all_stubs_end n refs) f in
    let l : loader ≡ (kept_of L refs addresses).loader =
    t ∙ ap₂ (λ n m. loader_where (uses_loader L) n m) g (sym (length-map L.set.members (λ x. x.wasm))) in
    let known : k ≡ record { owns = (kept_of L refs addresses).owns; imported = (kept_of L refs addresses).imported; loader = (kept_of L refs addresses).loader } =
    u ∙ (λ i. record { owns = a i; imported = b i; loader = l i }) in
    let fs : functions ≡ (kept_of L refs addresses).functions = v ∙ ap₂ (λ x n. named_lists x n refs) known f in
    let ts : types ≡ numbered (size_in Types) 0 (wasms L.set.members) = w ∙ ap (numbered (size_in Types) 0) list in
    λ i. record { functions = fs i; owns = a i; imported = b i; first_stub = f i; first_phase = g i; loader = l i; types = ts i; addresses = addresses }

module _ (L : LinkedSet) (refs : List (List Ref)) (named : AreFunctions L refs) (addresses : KeptAddresses) where
  abbrev kept : KeptNumbers
  kept = kept_of L refs addresses

  pub first_phase_is : (kept_of L refs addresses).first_phase ≡ first_phase L
  first_phase_is = ap (λ n. all_stubs_end n refs) (first_is L) ∙ ended L (first_stub L) refs named.names

  pub loader_is : (kept_of L refs addresses).loader ≡ loader_numbers L
  loader_is = ap₂ (λ a b. loader_where (uses_loader L) a b) first_phase_is (length-map L.set.members (λ x. x.wasm))

  named_same : (m f : ℕ) → number_at kept.functions m f ≡ (numbers_of L).named m f
  named_same m f =
      ap₂ (λ l n. number_at (named_lists (record { owns = owns L; imported = imports L; loader = l }) n refs) m f) loader_is (first_is L)
      ∙ named_is L refs named.names m f

  function_same : (r : Ref) → function_in kept r ≡ function_number L r
  function_same (Own m f) = own_is L m f
  function_same (Loader which) = ap (λ l. call_in l which) loader_is ∙ called L which
  function_same (Host e) = refl
  function_same (Stub m f) =
      ap₂ (λ a b. stub_number a b (number_at kept.functions m f)) (first_is L) first_phase_is
      ∙ ap (stub_number (first_stub L) (first_phase L)) (named_same m f)
      ∙ stub_number_is L m f

  pub numbers_are : AreAddressesOf L addresses → numbers_in (kept_of L refs addresses) ≡ numbers_of L
  numbers_are are =
      same_numbers (numbers_in kept) (numbers_of L) function_same named_same (λ m t. ap number_of (items_are L (λ x. length x.types) m t))
      (λ m g. ap number_of (are.globals m g)) (λ m t. ap number_of (are.tables m t))
      (λ m e. ap number_of (are.elems m e)) (λ m d. ap number_of (are.datas m d))
