-- `sweep::modulo_two` meets its contract, by the laws of proofs/Modulo.antt. Assumes nothing.
use mathlib.Core.Path.{◌≡◌, sym, ap, ◌∙◌}
use Prim.Native.Nat.{ℕ, ◌-◌, ◌*◌, ◌%◌, ◌^◌}
use native.Mathlib.Omega.{arith}
use lib.Ieee.{of_bits, div}
use Rattle.float.proofs.Shift.{one_shl}
use Rattle.float.proofs.Tests.{holds}
use Rattle.sweep.proofs.Modulo.{no_number, even, below_two, between}
use Rattle.sweep.proofs.modulo_two.Goals as goal

pub returns-then-not-is_finite : goal.returns-then-not-is_finite
unfolding of_bits div
returns-then-not-is_finite c = no_number c.args.winding (sym c.is_finite.ensures ∙ c.if-not-is_finite.true)

pub returns-then-parts-ge150 : goal.returns-then-parts-ge150
returns-then-parts-ge150 c = even c.unpack32-parts.ensures c.if-parts-ge150.true

pub returns-then-parts-lt126 : goal.returns-then-parts-lt126
returns-then-parts-lt126 c =
    c.abs.ensures ∙ below_two c.unpack32-parts.ensures c.if-parts-lt126.true (holds (rw c.abs.ensures at c.abs.type_inv))

pub returns : goal.returns
returns c =
    let e = c.unpack32-parts.result.exponent in
    let unit : 1 * 2 ^ (150 - e) % 2 ^ 64 ≡ 2 ^ (150 - e) = one_shl (150 - e) (omega arith) in
    rw (c.pack32.ensures, c.from_whole.ensures)
    (between c.unpack32-parts.ensures c.if-parts-lt126.false (omega arith) (ap (λ (n : ℕ). c.unpack32-parts.result.digits % n) unit))
