-- Laying on, in one cell: the rounded product of two bytes against 255 times the product of two shares. Assumes
-- nothing.
use mathlib.Core.List.{[], ◌∷◌, ◌++◌}
use Prim.Native.Nat.{ℕ, ◌+◌, ◌*◌, ◌/◌, ◌≤◌}
use native.Mathlib.Nat.{mul-le-mul}
use native.Mathlib.Omega.{arith}
use Rattle.fraction.specs.Fraction.{negᶠ, Fraction, ◌≤ᶠ◌, ◌≈ᶠ◌, natᶠ, ◌/2^◌, ◌+ᶠ◌, ◌*ᶠ◌, Near, Within}
use Rattle.fraction.proofs.Linear.{at, at_le, at_eq, le_at, add_at, scale_at, over, trans}
use Rattle.fraction.proofs.Order.{of_eq, mul_mono, mul_nonneg, mul_comm, mul_one}
use Rattle.fraction.proofs.Near.{near_mul}
use Rattle.fraction.proofs.Ring.{rep, reps, ring}
use Rattle.bound.proofs.Share.{near_nonneg}

-- (b * d + 127) / 255, rounded down, is off by 127 / 255
down_hi : (b d : ℕ) → natᶠ 255 *ᶠ natᶠ ((b * d + 127) / 255) ≤ᶠ natᶠ b *ᶠ natᶠ d +ᶠ natᶠ 127
unfolding ◌*ᶠ◌ ◌+ᶠ◌
down_hi b d = record { le = omega arith }

down_lo : (b d : ℕ) → natᶠ b *ᶠ natᶠ d ≤ᶠ natᶠ 255 *ᶠ natᶠ ((b * d + 127) / 255) +ᶠ natᶠ 127
unfolding ◌*ᶠ◌ ◌+ᶠ◌
down_lo b d = record { le = omega arith }

byte_within : (d : ℕ) → d ≤ 255 → Within (natᶠ d) (natᶠ 255)
unfolding negᶠ
byte_within d h = record { lo = record { le = omega arith }; hi = record { le = omega arith } }

share_within : {s : Fraction} → natᶠ 0 ≤ᶠ s → s ≤ᶠ natᶠ 1 → Within (natᶠ 255 *ᶠ s) (natᶠ 255)
share_within {s} p q = over (s ∷ natᶠ 255 *ᶠ s ∷ natᶠ 0 ∷ natᶠ 1 ∷ natᶠ 255 ∷ []) (λ N n S T O I B. record {
  lo = le_at N (search at) (search at) n (omega (arith, O.is, I.is, B.is, scale_at N (natᶠ 255) S T, at_le N O S p));
  hi = le_at N (search at) (search at) n (omega (arith, O.is, I.is, B.is, scale_at N (natᶠ 255) S T, at_le N S I q));
})

spread : (s t : Fraction) → natᶠ 255 *ᶠ (natᶠ 255 *ᶠ (s *ᶠ t)) ≈ᶠ natᶠ 255 *ᶠ s *ᶠ (natᶠ 255 *ᶠ t)
spread s t = let ρ = s ∷ t ∷ [] in let R = reps ρ in ring ρ (search rep) (search rep) tt

-- ---- THE STEP: |(b * d + 127) / 255 - 255 s t| ≤ A + (B + 1/2)
pub lay_near : (b d : ℕ) (s t A B : Fraction) → d ≤ 255 → natᶠ 0 ≤ᶠ s → s ≤ᶠ natᶠ 1 → Near (natᶠ b) (natᶠ 255 *ᶠ s) A → Near (natᶠ d) (natᶠ 255 *ᶠ t) B
    → Near (natᶠ ((b * d + 127) / 255)) (natᶠ 255 *ᶠ (s *ᶠ t)) (A +ᶠ (B +ᶠ 1 /2^ 1))
lay_near b d s t A B l p q h k =
    let m = near_mul h k (share_within p q) (byte_within d l) in
    let byte = natᶠ ((b * d + 127) / 255) in
    let full = natᶠ 255 in
    let values = byte ∷ full *ᶠ byte ∷ natᶠ b *ᶠ natᶠ d ∷ full *ᶠ (s *ᶠ t) ∷ full *ᶠ (full *ᶠ (s *ᶠ t)) ∷ full *ᶠ s *ᶠ (full *ᶠ t) ∷ [] in
    over (values ++ (A ∷ B ∷ full *ᶠ A ∷ A *ᶠ full ∷ full *ᶠ B ∷ natᶠ 127 ∷ 1 /2^ 1 ∷ []))
    (λ N n Z Z2 P T T2 Q X Y X2 X3 Y2 C H.
    let z2 = scale_at N (natᶠ 255) Z Z2 in
    let t2 = scale_at N (natᶠ 255) T T2 in
    let x2 = scale_at N (natᶠ 255) X X2 in
    let y2 = scale_at N (natᶠ 255) Y Y2 in
    let x3 = at_eq N X2 X3 (mul_comm (natᶠ 255) A) in
    let q2 = at_eq N T2 Q (spread s t) in
    let u = at_le N Z2 (add_at N P C) (down_hi b d) in
    let v = at_le N P (add_at N Z2 C) (down_lo b d) in
    let lo = at_le N Q (add_at N P (add_at N X3 Y2)) m.lo in
    let hi = at_le N P (add_at N Q (add_at N X3 Y2)) m.hi in
    record {
      lo = le_at N T (add_at N Z (add_at N X (add_at N Y H))) n (omega (arith, C.is, H.is));
      hi = le_at N Z (add_at N T (add_at N X (add_at N Y H))) n (omega (arith, C.is, H.is));
    })

-- ---- outside the other mask: 0 against 0
pub lay_none : (b : ℕ) (s A : Fraction) → Near (natᶠ b) (natᶠ 255 *ᶠ s) A → Near (natᶠ 0) (natᶠ 255 *ᶠ natᶠ 0) (A +ᶠ 1 /2^ 1)
unfolding ◌*ᶠ◌
lay_none b s A h =
    let p = near_nonneg h in
    over (natᶠ 0 ∷ A ∷ 1 /2^ 1 ∷ natᶠ 255 *ᶠ natᶠ 0 ∷ []) (λ N n O X H Z. record {
      lo = le_at N Z (add_at N O (add_at N X H)) n (omega (arith, O.is, H.is, Z.is, at_le N O X p));
      hi = le_at N O (add_at N Z (add_at N X H)) n (omega (arith, O.is, H.is, Z.is, at_le N O X p));
    })

-- ---- and what stays so: a byte is a byte, a share is a share
pub lay_byte : (b d : ℕ) → b ≤ 255 → d ≤ 255 → (b * d + 127) / 255 ≤ 255
lay_byte b d h k = let m : b * d ≤ 255 * 255 = mul-le-mul h k in omega arith

pub share_nonneg : {s t : Fraction} → natᶠ 0 ≤ᶠ s → natᶠ 0 ≤ᶠ t → natᶠ 0 ≤ᶠ s *ᶠ t
share_nonneg p q = mul_nonneg p q

pub share_most : {s t : Fraction} → natᶠ 0 ≤ᶠ s → s ≤ᶠ natᶠ 1 → t ≤ᶠ natᶠ 1 → s *ᶠ t ≤ᶠ natᶠ 1
share_most {s} p q r = trans (mul_mono p r) (trans (of_eq (mul_one s)) q)
