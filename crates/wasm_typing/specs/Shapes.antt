-- What the instructions of an opcode do.
-- Serves the contracts of this crate, which follow Context of `spec_validation`.
use Rattle.std.specs.Prelude.{ℕ, Option, Some}
use Rattle.wasm_form.specs.Plain.{plain_form}
use Rattle.wasm_form.specs.Index.{index_form}
use Rattle.wasm_form.specs.Access.{memory_access}
use Rattle.wasm_form.specs.Second.{second_form}
use Rattle.spec_validation.specs.spec_binary.Options.{◌>>=◌}
use Rattle.spec_validation.specs.Context.{Context, Labels, Shape, plain_shape, index_shape, access_shape, second_shape}

abbrev pub plain_shape_of : Context → ℕ → Option Shape
plain_shape_of c op = plain_form op >>= λ f. Some (plain_shape c f)

abbrev pub index_shape_of : Context → Labels → ℕ → ℕ → Option Shape
index_shape_of c labels op n = index_form op >>= λ f. index_shape c labels f n

abbrev pub access_shape_of : Context → ℕ → ℕ → Option Shape
access_shape_of c op align = memory_access op >>= access_shape c align

abbrev pub second_shape_of : Context → ℕ → ℕ → ℕ → Option Shape
second_shape_of c op x y = second_form op >>= λ f. second_shape c f x y
