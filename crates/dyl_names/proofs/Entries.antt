-- Entries of a map by text keys, as the meaning sees them.
use Rattle.std.proofs.Common.{◌≡◌, ℕ, Bool, true, false, List, [], ◌∷◌, ◌++◌, map, refl, ap, sym, ◌∙◌, cond, None, string_bytes, is_some}
use Rattle.std.specs.Prelude.{String}
use Rattle.std.specs.Str.{bytes_eq}
use Rattle.std.specs.Map.{lookup}
use Rattle.std.specs.String.{string_eq}
use Rattle.indexmap.specs.IndexMap.{insert_entry}
use Rattle.dyl_names.specs.declared.symbol.Symbol.{Symbol}
use Rattle.dyl_names.specs.Names.{Defined, by_bytes, symbol_value, maybe_symbol, with_symbol}

-- entries with the bytes of their texts, and their values as the meaning sees them
module _ {Z X Y : Type 0} (value : X → Y) where
  abbrev keyed : List (String Z × X) → List (List ℕ × Y)
  keyed es = map (λ e. (string_bytes e.0, value e.1)) es

  -- a new key goes last
  pub keyed_insert : (eq : String Z → String Z → Bool) (same : (x y : String Z) → eq x y ≡ bytes_eq (string_bytes x) (string_bytes y)) (es : List (String Z × X)) (k : String Z) (v : X)
      → lookup (bytes_eq (string_bytes k)) (keyed es) ≡ None → keyed (insert_entry eq es k v) ≡ keyed es ++ (string_bytes k, value v) ∷ []
  keyed_insert eq same [] k v none = refl
  keyed_insert eq same (e ∷ es) k v none = by (bytes_eq (string_bytes k) (string_bytes e.0)) refl (keyed_insert eq same es k v)
    where
      by : (b : Bool) → bytes_eq (string_bytes k) (string_bytes e.0) ≡ b → (lookup (bytes_eq (string_bytes k)) (keyed es) ≡ None → keyed (insert_entry eq es k v) ≡ keyed es ++ (string_bytes k, value v) ∷ []) → keyed (insert_entry eq (e ∷ es) k v) ≡ keyed (e ∷ es) ++ (string_bytes k, value v) ∷ []
      by true p rest = absurd (let h = rw p at none in cc)
      by false p rest = ap (λ b. keyed (cond b ((e.0, v) ∷ es) (e ∷ insert_entry eq es k v))) (same k e.0 ∙ p)
          ∙ ap (λ r. (string_bytes e.0, value e.1) ∷ r) (rest (rw p at none))

module _ {Z : Type 0} where
  -- a text is looked up by its bytes
  pub lookup_by_bytes : (name : List ℕ) (es : List (String Z × Symbol)) → maybe_symbol (lookup (λ k. bytes_eq name (string_bytes k)) es) ≡ lookup (bytes_eq name) (by_bytes es)
  lookup_by_bytes name [] = refl
  lookup_by_bytes name (e ∷ es) = by (bytes_eq name (string_bytes e.0)) refl (lookup_by_bytes name es)
    where
      by : (b : Bool) → bytes_eq name (string_bytes e.0) ≡ b → maybe_symbol (lookup (λ k. bytes_eq name (string_bytes k)) es) ≡ lookup (bytes_eq name) (by_bytes es) → maybe_symbol (lookup (λ k. bytes_eq name (string_bytes k)) (e ∷ es)) ≡ lookup (bytes_eq name) (by_bytes (e ∷ es))
      by true p rest = rw p refl
      by false p rest = rw p rest

  -- a definition of a name that isn't defined is added
  pub symbol_added : (es new : List (String Z × Symbol)) (k : String Z) (s : Symbol) (name : List ℕ) (old : Defined)
      → by_bytes es ≡ old → new ≡ insert_entry string_eq es k s → string_bytes k ≡ name → lookup (bytes_eq name) old ≡ None
      → by_bytes new ≡ with_symbol name (symbol_value s) old
  symbol_added es new k s name old view inserted named none =
      let absent : lookup (bytes_eq (string_bytes k)) (by_bytes es) ≡ None = ap (λ n. lookup (bytes_eq n) (by_bytes es)) named ∙ ap (lookup (bytes_eq name)) view ∙ none in
      ap by_bytes inserted
      ∙ keyed_insert symbol_value string_eq (λ x y. refl) es k s absent
      ∙ ap (λ n. by_bytes es ++ (n, symbol_value s) ∷ []) named
      ∙ ap (λ (ds : Defined). ds ++ (name, symbol_value s) ∷ []) view
      ∙ sym (ap (λ r. cond (is_some r) old (old ++ (name, symbol_value s) ∷ [])) none)
