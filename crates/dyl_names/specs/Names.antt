-- Names with what a member defines them as, in the order of their definitions.
-- Serves the contracts of this crate, which follow Definitions of `spec_linking`.
use Rattle.std.specs.Prelude.{ℕ, List, [], ◌∷◌, ◌++◌, map, Option, Some, None, is_some, String, string_bytes, if◌then◌else◌}
use Rattle.std.specs.Map.{lookup}
use Rattle.std.specs.Str.{bytes_eq}
use Rattle.spec_linking.specs.Definitions as defined
use Rattle.dyl_names.specs.declared.symbol.Definition.{Definition}
use Rattle.dyl_names.specs.declared.symbol.Symbol.{Symbol}
use Rattle.dyl_names.specs.declared.symbol.Symbol.TheVariants.{Function, Datum}

-- a symbol, as the meaning sees it
abbrev pub symbol_value : Symbol → defined.Symbol
symbol_value (Function f) = defined.FunctionSymbol f
symbol_value (Datum place) = defined.DataSymbol place

abbrev pub maybe_symbol : Option Symbol → Option defined.Symbol
maybe_symbol None = None
maybe_symbol (Some s) = Some (symbol_value s)

-- names, by their bytes, with what they are defined as
abbrev pub Defined : Type 0
Defined = List (List ℕ × defined.Symbol)

-- entries with the bytes of their texts
abbrev pub by_bytes : {Z : Type 0} → List (String Z × Symbol) → Defined
by_bytes es = map (λ e. (string_bytes e.0, symbol_value e.1)) es

-- of two definitions of a name the first one counts
abbrev pub with_symbol : List ℕ → defined.Symbol → Defined → Defined
with_symbol name s names = if is_some (lookup (bytes_eq name) names) then names else names ++ (name, s) ∷ []

-- with further definitions
abbrev pub with_all : Defined → Defined → Defined
with_all names [] = names
with_all names (d ∷ ds) = with_all (with_symbol d.0 d.1 names) ds

-- a definition, as the meaning sees it
abbrev pub definition_value : Definition → List ℕ × defined.Symbol
definition_value d = (d.name, symbol_value d.symbol)
