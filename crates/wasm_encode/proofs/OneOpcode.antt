-- The opcodes that alone have an operand of their kind.
use Rattle.std.proofs.Common.{◌≡◌, ℕ, Bool, true, false, refl, subst, arith}
use Rattle.std.specs.Prelude.{nat_eq, nat_lt, if◌then◌else◌}
use Rattle.std.proofs.lemmas.Bool.{eqb-true, eqb-false, ltb-true, ltb-false}
use Rattle.spec_reading.specs.spec_binary.Operands.{Operands, BlockBody, LoopBody, IfBodies, Labels, TypeAndTable, ValueTypes, OneRefType, MemorySizeByte, MemoryGrowByte, OneI32, OneI64, OneF32, OneF64, SecondOpcode, control_operands, access_operands, reference_operands, operands}

-- the opcode is the one of this kind, if one alone is
abbrev pub IsOpcode : ℕ → Operands → Type 0
IsOpcode b BlockBody = b ≡ 0x02
IsOpcode b LoopBody = b ≡ 0x03
IsOpcode b IfBodies = b ≡ 0x04
IsOpcode b Labels = b ≡ 0x0E
IsOpcode b TypeAndTable = b ≡ 0x11
IsOpcode b ValueTypes = b ≡ 0x1C
IsOpcode b MemorySizeByte = b ≡ 0x3F
IsOpcode b MemoryGrowByte = b ≡ 0x40
IsOpcode b OneI32 = b ≡ 0x41
IsOpcode b OneI64 = b ≡ 0x42
IsOpcode b OneF32 = b ≡ 0x43
IsOpcode b OneF64 = b ≡ 0x44
IsOpcode b OneRefType = b ≡ 0xD0
IsOpcode b SecondOpcode = b ≡ 0xFC
IsOpcode b _ = Unit {0}

-- by a test
by : (b : ℕ) (test : Bool) (x y : Operands) → (test ≡ true → IsOpcode b x) → (test ≡ false → IsOpcode b y) → IsOpcode b (if test then x else y)
by b true x y f g = f refl
by b false x y f g = g refl

is : (b n : ℕ) → nat_eq b n ≡ true → b ≡ n
is b n h = eqb-true b n h

control : (b : ℕ) → IsOpcode b (control_operands b)
unfolding control_operands
control b =
    by b (nat_lt b 0x02) _ _ (λ h. tt) (λ h. by b (nat_eq b 0x02) _ _ (is b 0x02) (λ h. by b (nat_eq b 0x03) _ _ (is b 0x03) (λ h. by b (nat_eq b 0x04) _ _ (is b 0x04) (λ h. by b (nat_lt b 0x0C) _ _ (λ h. tt)
    (λ h. by b (nat_lt b 0x0E) _ _ (λ h. tt) (λ h. by b (nat_eq b 0x0E) _ _ (is b 0x0E) (λ h. by b (nat_eq b 0x0F) _ _ (λ h. tt) (λ h. by b (nat_eq b 0x10) _ _ (λ h. tt)
    (λ h. by b (nat_eq b 0x11) _ _ (is b 0x11) (λ h. by b (nat_lt b 0x1A) _ _ (λ h. tt) (λ h. by b (nat_lt b 0x1C) _ _ (λ h. tt) (λ h. by b (nat_eq b 0x1C) _ _ (is b 0x1C) (λ h. tt)))))))))))))

last_access : (b : ℕ) → nat_lt b 0x45 ≡ true → nat_lt b 0x3F ≡ false → nat_eq b 0x3F ≡ false → nat_eq b 0x40 ≡ false → nat_eq b 0x41 ≡ false → nat_eq b 0x42 ≡ false → nat_eq b 0x43 ≡ false → b ≡ 0x44
last_access b h a c d e f g =
    let low = ltb-true b 0x45 h in
    let high = ltb-false b 0x3F a in
    let p = eqb-false b 0x3F c in
    let q = eqb-false b 0x40 d in
    let r = eqb-false b 0x41 e in
    let s = eqb-false b 0x42 f in
    let t = eqb-false b 0x43 g in
    grind (arith, low, high, p, q, r, s, t)

access : (b : ℕ) → nat_lt b 0x45 ≡ true → IsOpcode b (access_operands b)
unfolding access_operands
access b small =
    by b (nat_lt b 0x27) _ _ (λ h. tt) (λ h. by b (nat_lt b 0x28) _ _ (λ h. tt) (λ h. by b (nat_lt b 0x3F) _ _ (λ h. tt) (λ a. by b (nat_eq b 0x3F) _ _ (is b 0x3F) (λ c. by b (nat_eq b 0x40) _ _ (is b 0x40)
    (λ d. by b (nat_eq b 0x41) _ _ (is b 0x41) (λ e. by b (nat_eq b 0x42) _ _ (is b 0x42) (λ f. by b (nat_eq b 0x43) _ _ (is b 0x43) (λ g. last_access b small a c d e f g))))))))

references : (b : ℕ) → IsOpcode b (reference_operands b)
unfolding reference_operands
references b =
    by b (nat_eq b 0xD0) _ _ (is b 0xD0) (λ h. by b (nat_eq b 0xD1) _ _ (λ h. tt) (λ h. by b (nat_eq b 0xD2) _ _ (λ h. tt) (λ h. by b (nat_eq b 0xFC) _ _ (is b 0xFC) (λ h. tt))))

all : (b : ℕ) → IsOpcode b (operands b)
all b = by b (nat_lt b 0x20) _ _ (λ h. control b) (λ h. by b (nat_lt b 0x45) _ _ (access b) (λ h. by b (nat_lt b 0xC5) _ _ (λ h. tt) (λ h. references b)))

pub opcode_is : (b : ℕ) (o : Operands) → operands b ≡ o → IsOpcode b o
opcode_is b o e = subst (IsOpcode b) e (all b)
