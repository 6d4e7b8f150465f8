-- What a name is looked up as is what the module defines it as.
use Rattle.std.proofs.Common.{◌≡◌, ℕ, Bool, true, false, List, [], ◌∷◌, ◌++◌, refl, ap, sym, ◌∙◌, cond, Some, None, Option}
use Rattle.std.specs.Prelude.{◌&&◌, not}
use Rattle.std.specs.Str.{bytes_eq}
use Rattle.std.specs.Map.{lookup}
use Rattle.std.proofs.lemmas.Slice.Eq.{bytes_eq-Decides}
use Rattle.wasm_form.specs.declared.module.Export.{Export}
use Rattle.wasm_form.specs.declared.module.Module.{Module}
use Rattle.spec_linking.specs.spec_binary.Exports.{exported_as}
use Rattle.spec_linking.specs.spec_binary.Options.{◌>>=◌}
use Rattle.spec_linking.specs.spec_validation.Faults.{names_distinct, contains_name}
use Rattle.spec_linking.specs.Definitions as defined
use Rattle.dyl_scope.specs.Names.{Defined, with_symbol, with_all, defined_as, defined_in}

-- the one, or where it is none, the other
abbrev pub or_symbol : Option defined.Symbol → Option defined.Symbol → Option defined.Symbol
or_symbol None other = other
or_symbol (Some s) other = Some s

or_none : (a : Option defined.Symbol) → or_symbol a None ≡ a
or_none None = refl
or_none (Some s) = refl

or_assoc : (a b c : Option defined.Symbol) → or_symbol (or_symbol a b) c ≡ or_symbol a (or_symbol b c)
or_assoc None b c = refl
or_assoc (Some s) b c = refl

lookup_append : (name : List ℕ) (xs ys : Defined) → lookup (bytes_eq name) (xs ++ ys) ≡ or_symbol (lookup (bytes_eq name) xs) (lookup (bytes_eq name) ys)
lookup_append name [] ys = refl
lookup_append name (x ∷ xs) ys = by (bytes_eq name x.0) refl (lookup_append name xs ys)
  where
    by : (b : Bool) → bytes_eq name x.0 ≡ b → lookup (bytes_eq name) (xs ++ ys) ≡ or_symbol (lookup (bytes_eq name) xs) (lookup (bytes_eq name) ys)
        → lookup (bytes_eq name) ((x ∷ xs) ++ ys) ≡ or_symbol (lookup (bytes_eq name) (x ∷ xs)) (lookup (bytes_eq name) ys)
    by true p rest = rw p refl
    by false p rest = rw p rest

-- one more definition
lookup_with : (name : List ℕ) (names : Defined) (d : List ℕ × defined.Symbol) → lookup (bytes_eq name) (with_symbol d.0 d.1 names) ≡ or_symbol (lookup (bytes_eq name) names) (lookup (bytes_eq name) (d ∷ []))
lookup_with name names d = by (lookup (bytes_eq d.0) names) refl
  where
    there : (s : defined.Symbol) (b : Bool) → bytes_eq name d.0 ≡ b → lookup (bytes_eq d.0) names ≡ Some s → lookup (bytes_eq name) names ≡ or_symbol (lookup (bytes_eq name) names) (lookup (bytes_eq name) (d ∷ []))
    there s true p had = let same : name ≡ d.0 = (bytes_eq-Decides name d.0).0 p in rw (same, had) refl
    there s false p had = rw p (sym (or_none (lookup (bytes_eq name) names)))

    by : (r : Option defined.Symbol) → lookup (bytes_eq d.0) names ≡ r → lookup (bytes_eq name) (with_symbol d.0 d.1 names) ≡ or_symbol (lookup (bytes_eq name) names) (lookup (bytes_eq name) (d ∷ []))
    by None p = rw p (lookup_append name names (d ∷ []))
    by (Some s) p = rw p (there s (bytes_eq name d.0) refl p)

-- definitions of which the first of a name counts
pub lookup_all : (name : List ℕ) (ds names : Defined) → lookup (bytes_eq name) (with_all names ds) ≡ or_symbol (lookup (bytes_eq name) names) (lookup (bytes_eq name) ds)
lookup_all name [] names = sym (or_none (lookup (bytes_eq name) names))
lookup_all name (d ∷ ds) names =
    lookup_all name ds (with_symbol d.0 d.1 names)
    ∙ ap (λ r. or_symbol r (lookup (bytes_eq name) ds)) (lookup_with name names d)
    ∙ or_assoc (lookup (bytes_eq name) names) (lookup (bytes_eq name) (d ∷ [])) (lookup (bytes_eq name) ds)
    ∙ ap (or_symbol (lookup (bytes_eq name) names)) (sym (lookup_append name (d ∷ []) ds))

-- an export that isn't there
no_export : (name : List ℕ) (m : Module) (es : List Export) → contains_name name es ≡ false → lookup (bytes_eq name) (defined_in m es) ≡ None
no_export name m [] none = refl
no_export name m (e ∷ es) none = by (bytes_eq name e.name) refl (defined.export_symbol m e) (no_export name m es)
  where
    by : (b : Bool) → bytes_eq name e.name ≡ b → (s : Option defined.Symbol) → (contains_name name es ≡ false → lookup (bytes_eq name) (defined_in m es) ≡ None) → lookup (bytes_eq name) (defined_as e.name s ++ defined_in m es) ≡ None
    by true p s rest = absurd (let h = rw p at none in cc)
    by false p None rest = rest (rw p at none)
    by false p (Some s) rest = rw p (rest (rw p at none))

split_and : (a b : Bool) → (not a && b) ≡ true → (a ≡ false) × (b ≡ true)
split_and true b h = absurd cc
split_and false b h = (refl, h)

abbrev nothing : Option defined.Symbol
nothing = None

none_or : (b : Bool) → cond b nothing nothing ≡ None
none_or true = refl
none_or false = refl

-- where the names are distinct, the first definition of a name is that of the module
pub defined_once : (name : List ℕ) (m : Module) (es : List Export) → names_distinct es ≡ true
    → lookup (bytes_eq name) (defined_in m es) ≡ cond (defined.is_one_of name defined.reserved_names) None (exported_as name es >>= defined.desc_symbol m)
defined_once name m [] d = sym (none_or (defined.is_one_of name defined.reserved_names))
defined_once name m (e ∷ es) d =
    let h = split_and (contains_name e.name es) (names_distinct es) d in
    by (bytes_eq name e.name) refl h.0 (defined_once name m es h.1)
  where
    this : (s : Option defined.Symbol) → bytes_eq e.name e.name ≡ true → lookup (bytes_eq e.name) (defined_in m es) ≡ None → lookup (bytes_eq e.name) (defined_as e.name s ++ defined_in m es) ≡ s
    this None same rest = rest
    this (Some s) same rest = rw same refl

    other : (s : Option defined.Symbol) → bytes_eq name e.name ≡ false → lookup (bytes_eq name) (defined_as e.name s ++ defined_in m es) ≡ lookup (bytes_eq name) (defined_in m es)
    other None p = refl
    other (Some s) p = rw p refl

    by : (b : Bool) → bytes_eq name e.name ≡ b → contains_name e.name es ≡ false
        → lookup (bytes_eq name) (defined_in m es) ≡ cond (defined.is_one_of name defined.reserved_names) None (exported_as name es >>= defined.desc_symbol m)
        → lookup (bytes_eq name) (defined_in m (e ∷ es)) ≡ cond (defined.is_one_of name defined.reserved_names) None (exported_as name (e ∷ es) >>= defined.desc_symbol m)
    by true p once rest =
        let same : name ≡ e.name = (bytes_eq-Decides name e.name).0 p in
        let itself : bytes_eq e.name e.name ≡ true = (bytes_eq-Decides e.name e.name).1 refl in
        rw (same, itself) (this (defined.export_symbol m e) itself (no_export e.name m es once))
    by false p once rest = other (defined.export_symbol m e) p ∙ rest ∙ (rw p refl)

-- the names of a module, each as it is defined
pub names_exact : (name : List ℕ) (m : Module) → names_distinct m.exports ≡ true → lookup (bytes_eq name) (with_all [] (defined_in m m.exports)) ≡ defined.symbol_of m name
names_exact name m d = lookup_all name (defined_in m m.exports) [] ∙ defined_once name m m.exports d
