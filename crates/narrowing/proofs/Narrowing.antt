-- What the proofs of `narrow_finite` and `narrow` cite: by x's digits and exponent, which value of binary32 is
-- nearest. Assumes nothing.
use mathlib.Core.Path.{◌≡◌, refl, sym, ap, ◌∙◌}
use mathlib.Core.Logic.{◌⊎◌, inl, inr}
use mathlib.Core.Bool.{Bool, true, false}
use Prim.Native.Nat.{ℕ, ◌+◌, ◌-◌, ◌*◌, ◌^◌, ◌≤◌, ◌<◌}
use native.Mathlib.Nat.{lt_of_lt_of_le}
use native.Mathlib.Omega.{arith}
use lib.Dec.{T, lit<}
use lib.Pow.{pow_pos, pow_mono}
use lib.Ieee.{Float, nan, inf, fin, binary32, binary64, up, down, units, round, eq, is_nan}
use lib.Ieee.Exact.{HasValue}
use lib.Ieee.Fits.{down_pos}
use lib.Ieee.Nearest.{closest}
use lib.Ieee.Scale.{round_same, finite}
use Rattle.narrowing.specs.Width.{narrow_of}
use Rattle.float.specs.Parts.{Unpacked}
use Rattle.float.proofs.Tests.{never, is_inf}
use Rattle.float.proofs.Shift.{closest_le, closest_ge, closest_none, round_shift}

narrowed_value : (x : Float) (s : Bool) (a c : ℕ) → 0 < c → HasValue x s a c → narrow_of x ≡ round binary32 s a c
unfolding narrow_of
narrowed_value nan s a c C v = absurd v
narrowed_value (inf t) s a c C v = absurd v
narrowed_value (fin t m e) s a c C v = round_same binary32 t (m * up e) (down e) a c (down_pos e) C v.1 ∙ ap (λ (b : Bool). round binary32 b a c) v.0

module _ {x : Float} {s : Bool} {d e : ℕ} (p : Unpacked binary64 x s d e) where
  is_round : narrow_of x ≡ round binary32 s (d * 2 ^ e) (2 ^ 1074)
  is_round = narrowed_value x s (d * 2 ^ e) (2 ^ 1074) (pow_pos 1074) p.value

  full_above : (n : ℕ) → 0 < n → n ≤ e → 2 ^ 52 ≤ d
  full_above n z h = go p.full
    where
      go : (e ≡ 0) ⊎ (2 ^ 52 ≤ d) → 2 ^ 52 ≤ d
      go (inl k) = absurd (omega arith)
      go (inr k) = k

  pub normal_le : closest d (2 ^ 29) ≤ 2 ^ 24
  normal_le = closest_le 24 29 d p.small

  pub normal_ge : 896 ≤ e → 2 ^ 23 ≤ closest d (2 ^ 29)
  normal_ge h = closest_ge 23 29 d (full_above 896 (lit< tt) h)

  pub normal : 896 ≤ e → units binary32 s (closest d (2 ^ 29)) (e - 896) ≡ narrow_of x
  normal h = sym (is_round ∙ round_shift binary32 s d e 1074 29 (e - 896) (omega arith) p.small (inr (full_above 896 (lit< tt) h)))

  short_lt : e < 896 → d < 2 ^ (24 + (925 - e))
  short_lt h = let l : 53 ≤ 24 + (925 - e) = omega arith in lt_of_lt_of_le p.small (pow_mono l)

  pub short_le : e < 896 → closest d (2 ^ (925 - e)) ≤ 2 ^ 24
  short_le h = closest_le 24 (925 - e) d (short_lt h)

  pub short : e < 896 → units binary32 s (closest d (2 ^ (925 - e))) 0 ≡ narrow_of x
  short h = sym (is_round ∙ round_shift binary32 s d e 1074 (925 - e) 0 (omega arith) (short_lt h) (inl refl))

  pub none : e < 863 → units binary32 s 0 0 ≡ narrow_of x
  none h =
      let l : e < 896 = omega arith in
      let g : 54 ≤ 925 - e = omega arith in
      let b : 2 ^ 54 ≤ 2 ^ (925 - e) = pow_mono g in
      let q : d < 2 ^ 53 = p.small in
      ap (λ (q : ℕ). units binary32 s q 0) (sym (closest_none d (2 ^ (925 - e)) (lt_of_lt_of_le (doubled d q) b))) ∙ short l
    where
      doubled : (d : ℕ) → d < 2 ^ 53 → d * 2 < 2 ^ 54
      doubled d q = omega arith

-- ---- the values that are no numbers

pub of_inf : (t : Bool) (x : Float) → eq x (inf t) ≡ true → inf t ≡ narrow_of x
unfolding narrow_of
of_inf t x h = rw (is_inf t x h)

pub left_over : (x : Float) → is_nan x ≡ false → eq x (inf false) ≡ false → eq x (inf true) ≡ false → T (finite x)
unfolding eq is_nan
left_over nan h k l = never (sym h)
left_over (inf false) h k l = never (sym k)
left_over (inf true) h k l = never (sym l)
left_over (fin s m e) h k l = tt

pub of_nan : (x : Float) → is_nan x ≡ true → nan ≡ narrow_of x
unfolding narrow_of is_nan
of_nan nan h = refl
of_nan (inf s) h = never h
of_nan (fin s m e) h = never h
