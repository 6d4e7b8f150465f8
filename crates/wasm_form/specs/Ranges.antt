-- Opcodes that stand together.
-- By WebAssembly Core 2.0, section 5.4.
use Rattle.std.specs.Prelude.{ℕ, Bool, ◌&&◌, nat_le}

abbrev pub within : ℕ → ℕ → ℕ → Bool
within low high op = nat_le low op && nat_le op high
