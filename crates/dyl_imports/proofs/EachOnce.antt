-- Host functions, each once.
use Rattle.std.proofs.Common.{◌≡◌, ℕ, zero, suc, ◌+◌, ◌≤◌, Bool, true, false, ◌&&◌, ◌||◌, cond, List, [], ◌∷◌, ◌++◌, map, Option, Some, None, find, is_some, refl, ap, ap₂, sym, ◌∙◌, append_assoc, append-nil, slice_get, arith}
use Rattle.std.specs.List.{list_any, position_from}
use Rattle.std.specs.Option.{option_map}
use Rattle.std.proofs.lemmas.Option.{slice_get-map}
use Rattle.host_table.specs.declared.host.HostName as code
use Rattle.host_table.specs.Names.{host_name_of}
use Rattle.spec_loading.specs.spec_runtime.Names.{HostName}
use Rattle.spec_loading.specs.spec_linking.LinkedSets.{is_same_name, first_names, is_named}
use Rattle.dyl_imports.specs.Hosts.{with_host, with_hosts}
use Rattle.dyl_imports.proofs.Names.{bytes_eq-sym}

pub with_hosts-append : (known xs ys : List HostName) → with_hosts known (xs ++ ys) ≡ with_hosts (with_hosts known xs) ys
with_hosts-append known [] ys = refl
with_hosts-append known (x ∷ xs) ys = with_hosts-append (with_host known x) xs ys

-- those that are known, and of the others each once
known_first : (known hs : List HostName) → known ++ first_names known hs ≡ with_hosts known hs
known_first known [] = append-nil known
known_first known (h ∷ hs) = by (list_any (is_same_name h) known) (known_first known hs) (known_first (known ++ h ∷ []) hs)
  where
    by : (b : Bool) → known ++ first_names known hs ≡ with_hosts known hs → (known ++ h ∷ []) ++ first_names (known ++ h ∷ []) hs ≡ with_hosts (known ++ h ∷ []) hs
        → known ++ cond b (first_names known hs) (h ∷ first_names (known ++ h ∷ []) hs) ≡ with_hosts (cond b known (known ++ h ∷ [])) hs
    by true old new = old
    by false old new = sym (append_assoc known (h ∷ []) (first_names (known ++ h ∷ []) hs)) ∙ new

pub first_all : (hs : List HostName) → with_hosts [] hs ≡ first_names [] hs
first_all hs = sym (known_first [] hs)

-- ---- one that is known

same_test : (h x : HostName) → is_named h.module_name h.name x ≡ is_same_name h x
same_test h x = ap₂ (λ a b. a && b) (bytes_eq-sym x.module_name h.module_name) (bytes_eq-sym x.name h.name)

known_from : (h : HostName) (k : ℕ) (xs : List HostName) → is_some (position_from (is_named h.module_name h.name) k xs) ≡ list_any (is_same_name h) xs
known_from h k [] = refl
known_from h k (x ∷ xs) = by (is_named h.module_name h.name x) (is_same_name h x) (same_test h x) (known_from h (k + 1) xs)
  where
    by : (a b : Bool) → a ≡ b → is_some (position_from (is_named h.module_name h.name) (k + 1) xs) ≡ list_any (is_same_name h) xs
        → is_some (cond a (Some k) (position_from (is_named h.module_name h.name) (k + 1) xs)) ≡ (b || list_any (is_same_name h) xs)
    by true true e rest = refl
    by true false e rest = absurd cc
    by false true e rest = absurd cc
    by false false e rest = rest

pub kept_host : (known : List HostName) (h : HostName) (n : ℕ) → position_from (is_named h.module_name h.name) 0 known ≡ Some n → known ≡ with_host known h
kept_host known h n e = ap (λ b. cond b known (known ++ h ∷ [])) (sym (sym (known_from h 0 known) ∙ ap is_some e))

pub new_host : (known : List HostName) (h : HostName) → position_from (is_named h.module_name h.name) 0 known ≡ None → known ++ h ∷ [] ≡ with_host known h
new_host known h e = ap (λ b. cond b known (known ++ h ∷ [])) (sym (sym (known_from h 0 known) ∙ ap is_some e))

-- ---- the one at a place

module _ {A : Type 0} (p : A → Bool) where
  none_at : (k : ℕ) (xs : List A) → position_from p k xs ≡ None → find p xs ≡ None
  none_at k [] e = refl
  none_at k (x ∷ xs) e = by (p x) e (none_at (k + 1) xs)
    where
      by : (b : Bool) → cond b (Some k) (position_from p (k + 1) xs) ≡ None → (position_from p (k + 1) xs ≡ None → find p xs ≡ None) → cond b (Some x) (find p xs) ≡ None
      by true e rest = absurd cc
      by false e rest = rest e

  -- a place is none before the first number
  above : (k : ℕ) (xs : List A) (n : ℕ) → position_from p k xs ≡ Some n → k ≤ n
  above k [] n at = absurd cc
  above k (x ∷ xs) n at = by (p x) at (above (k + 1) xs n)
    where
      by : (b : Bool) → cond b (Some k) (position_from p (k + 1) xs) ≡ Some n → (position_from p (k + 1) xs ≡ Some n → k + 1 ≤ n) → k ≤ n
      by true at rest = let same : k ≡ n = cc in omega arith
      by false at rest = let later : k + 1 ≤ n = rest at in omega arith

  some_at : (k : ℕ) (xs : List A) (n j : ℕ) → n ≡ k + j → position_from p k xs ≡ Some n → slice_get xs j ≡ find p xs
  some_at k [] n j e at = absurd cc
  some_at k (x ∷ xs) n j e at = by (p x) at j e (some_at (k + 1) xs n)
    where
      by : (b : Bool) → cond b (Some k) (position_from p (k + 1) xs) ≡ Some n → (j : ℕ) → n ≡ k + j → ((i : ℕ) → n ≡ (k + 1) + i → position_from p (k + 1) xs ≡ Some n → slice_get xs i ≡ find p xs)
          → slice_get (x ∷ xs) j ≡ cond b (Some x) (find p xs)
      by true at zero e rest = refl
      by true at (suc j) e rest = let same : k ≡ n = cc in absurd (omega arith)
      by false at zero e rest = let later : k + 1 ≤ n = above (k + 1) xs n at in absurd (omega arith)
      by false at (suc j) e rest = rest j (omega arith) at

  pub found_none : (xs : List A) → position_from p 0 xs ≡ None → find p xs ≡ None
  found_none xs e = none_at 0 xs e

  pub found_some : (xs : List A) (n : ℕ) → position_from p 0 xs ≡ Some n → slice_get xs n ≡ find p xs
  found_some xs n e = some_at 0 xs n n (omega arith) e

-- the type of the first host function of a module and a name, by its place
same_types : (o : Option code.HostName) → option_map (λ h. h.ty) o ≡ option_map (λ (h : HostName). h.ty) (option_map host_name_of o)
same_types None = refl
same_types (Some h) = refl

pub typed_host : (list : List code.HostName) (hosts : List HostName) (from name : List ℕ) (n : ℕ) → map host_name_of list ≡ hosts → position_from (is_named from name) 0 hosts ≡ Some n
    → option_map (λ h. h.ty) (slice_get list n) ≡ option_map (λ (h : HostName). h.ty) (find (is_named from name) hosts)
typed_host list hosts from name n view at =
    let mapped : slice_get hosts n ≡ option_map host_name_of (slice_get list n) = ap (λ hs. slice_get hs n) (sym view) ∙ slice_get-map host_name_of list n in
    same_types (slice_get list n) ∙ ap (λ o. option_map (λ (h : HostName). h.ty) o) (sym mapped ∙ found_some (is_named from name) hosts n at)

pub untyped_host : (hosts : List HostName) (from name : List ℕ) → position_from (is_named from name) 0 hosts ≡ None → None ≡ option_map (λ (h : HostName). h.ty) (find (is_named from name) hosts)
untyped_host hosts from name none = sym (ap (λ o. option_map (λ (h : HostName). h.ty) o) (found_none (is_named from name) hosts none))
