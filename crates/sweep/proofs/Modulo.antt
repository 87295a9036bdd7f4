-- The size of a float modulo 2, which is exact: by whole numbers of the format's smallest values it is what `%` gives.
-- Assumes nothing.
use mathlib.Core.Path.{◌≡◌, refl, sym, ap, ap₂, ◌∙◌, subst}
use mathlib.Core.Bool.{Bool, false, true≢false}
use Prim.Native.Nat.{ℕ, ◌+◌, ◌-◌, ◌*◌, ◌%◌, ◌^◌, ◌<◌, ◌≤◌}
use native.Mathlib.Nat.{mul-div_cancel, mul-mod_left, mul-pos, one-mul, mul_assoc, mod-eq_of_lt, mod-le, lt_of_le_of_lt, lt_of_lt_of_le}
use native.Mathlib.Omega.{arith}
use lib.Arith.{mod-mul}
use lib.IntN.{pos}
use lib.Ieee.Back.{round_whole}
use lib.Pow.{pow_pos, pow-add, pow_mono, pow-lt, shl_lt}
use lib.Dec.{T, lit<}
use lib.Count.{count_trailing_zeros}
use lib.Ieee.{Float, nan, inf, fin, binary32, fits, rem, mul, div, of_int, round, size, units, unlike, span, climb, of_bits, of_fields, odd, up, down}
use lib.Ieee.Exact.{HasValue, units_val}
use lib.Ieee.Scale.{finite, round_same}
use lib.Ieee.Fits.{down_pos}
use Rattle.whole.specs.Whole.{of_whole}
use Rattle.float.specs.Ops.{f0, f2, ◌⊗◌, ◌⊘◌}
use Rattle.float.specs.Simple.{abs_of}
use Rattle.float.specs.Parts.{Unpacked}
use Rattle.sweep.proofs.Winding.{itself}

two_eq : f2 ≡ fin false 1 (pos 1)
unfolding of_bits of_fields odd count_trailing_zeros
two_eq = refl

scaled : (x y c : ℕ) → 0 < y → 0 < c → (x * c) % (y * c) ≡ x % y * c
scaled x y c Y C =
    mod-mul (x * c) Y C ∙ ap₂ (λ (n m : ℕ). n % y * c + m) (mul-div_cancel x C) (mul-mod_left x c) ∙ omega arith

-- a remainder by 2, from a size a / c
rem_value : (x : Float) (s : Bool) (a c : ℕ) → 0 < c → HasValue x s a c → rem binary32 (abs_of x) f2 ≡ round binary32 false (a % (2 * c)) c
unfolding rem abs_of
rem_value nan s a c C v = elim v [ ]
rem_value (inf t) s a c C v = elim v [ ]
rem_value (fin t m e) s a c C v = subst (λ (y : Float). rem binary32 (fin false m e) y ≡ round binary32 false (a % (2 * c)) c) (sym two_eq) go
  where
    D : 0 < down e
    D = down_pos e

    same : (m * up e * 1) % (1 * 2 * down e) * c ≡ a % (2 * c) * (down e * 1)
    same =
        let x = m * up e in
        let first : (x * 1) % (1 * 2 * down e) * c ≡ x % (2 * down e) * c = ap₂ (λ (n k : ℕ). n % k * c) (omega arith) (omega arith) in
        let left : (x * c) % (2 * down e * c) ≡ x % (2 * down e) * c = scaled x (2 * down e) c (mul-pos (lit< tt) D) C in
        let right : (a * down e) % (2 * c * down e) ≡ a % (2 * c) * down e = scaled a (2 * c) (down e) (mul-pos (lit< tt) C) D in
        let units : (x * c) % (2 * down e * c) ≡ (a * down e) % (2 * c * down e) = ap₂ (λ (n k : ℕ). n % k) v.1 (omega arith) in
        first ∙ sym left ∙ units ∙ right ∙ ap (λ (k : ℕ). a % (2 * c) * k) (omega arith)

    go : round binary32 false ((m * up e * 1) % (1 * 2 * down e)) (down e * 1) ≡ round binary32 false (a % (2 * c)) c
    go = round_same binary32 false _ _ _ _ (mul-pos D (lit< tt)) C same

-- a product of two sizes
mul_value : (x y : Float) (a c b d : ℕ) → 0 < c → 0 < d → HasValue x false a c → HasValue y false b d → mul binary32 x y ≡ round binary32 false (a * b) (c * d)
unfolding mul
mul_value nan y a c b d C E v w = elim v [ ]
mul_value (inf t) y a c b d C E v w = elim v [ ]
mul_value (fin s m e) nan a c b d C E v w = elim w [ ]
mul_value (fin s m e) (inf t) a c b d C E v w = elim w [ ]
mul_value (fin s m e) (fin t n g) a c b d C E v w =
    ap₂ (λ (p q : Bool). round binary32 (unlike p q) (m * up e * (n * up g)) (down e * down g)) v.0 w.0
    ∙ round_same binary32 false _ _ _ _ (mul-pos (down_pos e) (down_pos g)) (mul-pos C E)
    (cross (m * up e) (down e) a c (n * up g) (down g) b d v.1 w.1)
  where
    cross : (x p a c y q b d : ℕ) → x * c ≡ a * p → y * d ≡ b * q → x * y * (c * d) ≡ a * b * (p * q)
    cross x p a c y q b d h k = omega (arith, ap₂ (λ (i j : ℕ). i * j) h k)

-- ---- the ways that `modulo_two` returns

-- a value of the format is its own rounding
own_value : (x : Float) (s : Bool) (a c : ℕ) → 0 < c → T (fits binary32 x) → HasValue x s a c → x ≡ round binary32 s a c
own_value nan s a c C t v = elim v [ ]
own_value (inf u) s a c C t v = elim v [ ]
own_value (fin u m e) s a c C t v =
    sym (itself binary32 u m e t) ∙ ap (λ (b : Bool). round binary32 b (m * up e) (down e)) v.0
    ∙ round_same binary32 s _ _ _ _ (down_pos e) C v.1

abs_value : (x : Float) (s : Bool) (a c : ℕ) → HasValue x s a c → HasValue (abs_of x) false a c
unfolding abs_of
abs_value nan s a c v = elim v [ ]
abs_value (inf u) s a c v = elim v [ ]
abs_value (fin u m e) s a c v = (refl, v.1)

pub no_number : (x : Float) → finite x ≡ false → f0 ⊘ f0 ≡ rem binary32 (abs_of x) f2
unfolding div rem abs_of of_bits
no_number nan h = refl
no_number (inf u) h = refl
no_number (fin u m e) h = absurd (true≢false h)

zero_rounded : round binary32 false 0 (2 ^ 149) ≡ f0
unfolding round size units odd span climb of_bits of_fields count_trailing_zeros
zero_rounded = refl

whole_value : (n : ℕ) → n ≤ 2 ^ 24 → HasValue (of_whole n) false n 1
unfolding of_int
whole_value n h = round_whole binary32 false n (omega arith)

module _ {x : Float} {s : Bool} {d e : ℕ} (p : Unpacked binary32 x s d e) where
  pub even : 150 ≤ e → f0 ≡ rem binary32 (abs_of x) f2
  even h =
      let j : e - 150 + 150 ≡ e = omega arith in
      let z : d * 2 ^ e ≡ d * 2 ^ (e - 150) * (2 * 2 ^ 149) =
      ap (λ (n : ℕ). d * 2 ^ n) (sym j) ∙ ap (λ (n : ℕ). d * n) (pow-add 2 (e - 150) 150) ∙ sym (mul_assoc d (2 ^ (e - 150)) (2 ^ 150)) in
      let left : (d * 2 ^ e) % (2 * 2 ^ 149) ≡ 0 = ap (λ (n : ℕ). n % (2 * 2 ^ 149)) z ∙ mul-mod_left (d * 2 ^ (e - 150)) (2 * 2 ^ 149) in
      sym (rem_value x s (d * 2 ^ e) (2 ^ 149) (pow_pos 149) p.value ∙ ap (λ (n : ℕ). round binary32 false n (2 ^ 149)) left ∙ zero_rounded)

  pub below_two : e < 126 → T (fits binary32 (abs_of x)) → abs_of x ≡ rem binary32 (abs_of x) f2
  below_two h t =
      let few : d * 2 ^ e < 2 ^ (24 + e) = shl_lt 24 e p.small in
      let most : 2 ^ (24 + e) ≤ 2 ^ 150 = pow_mono {i = 24 + e} {j = 150} (omega arith) in
      let left : (d * 2 ^ e) % (2 * 2 ^ 149) ≡ d * 2 ^ e = mod-eq_of_lt (lt_of_lt_of_le few most) in
      own_value (abs_of x) false (d * 2 ^ e) (2 ^ 149) (pow_pos 149) t (abs_value x s (d * 2 ^ e) (2 ^ 149) p.value)
      ∙ ap (λ (n : ℕ). round binary32 false n (2 ^ 149)) (sym left) ∙ sym (rem_value x s (d * 2 ^ e) (2 ^ 149) (pow_pos 149) p.value)

  pub between : 126 ≤ e → e < 150 → {n : ℕ} → n ≡ d % 2 ^ (150 - e) → of_whole n ⊗ units binary32 false (2 ^ 23) (e - 23) ≡ rem binary32 (abs_of x) f2
  between h l {n} q =
      let small : n < 2 ^ 24 = lt_of_le_of_lt (rw q (mod-le d (2 ^ (150 - e)))) p.small in
      let own : 23 + (e - 23) ≡ e = omega arith in
      let all : 150 ≡ 150 - e + e = omega arith in
      let scale : 2 ^ 23 * 2 ^ (e - 23) ≡ 2 ^ e = sym (pow-add 2 23 (e - 23)) ∙ ap (λ (k : ℕ). 2 ^ k) own in
      let two : 2 * 2 ^ 149 ≡ 2 ^ (150 - e) * 2 ^ e = ap (λ (k : ℕ). 2 ^ k) all ∙ pow-add 2 (150 - e) e in
      let room : 2 ^ 23 * 2 ^ (e - 23) < 2 ^ 277 = rw scale (pow-lt {i = e} {j = 277} (omega arith)) in
      let left : (d * 2 ^ e) % (2 * 2 ^ 149) ≡ n * (2 ^ 23 * 2 ^ (e - 23)) =
      ap (λ (k : ℕ). (d * 2 ^ e) % k) two ∙ scaled d (2 ^ (150 - e)) (2 ^ e) (pow_pos (150 - e)) (pow_pos e)
      ∙ ap₂ (λ (k m : ℕ). k * m) (sym q) (sym scale) in
      mul_value (of_whole n) (units binary32 false (2 ^ 23) (e - 23)) n 1 (2 ^ 23 * 2 ^ (e - 23)) (2 ^ 149) (lit< tt) (pow_pos 149)
      (whole_value n (omega arith)) (units_val binary32 false (2 ^ 23) (e - 23) room)
      ∙ ap₂ (λ (k m : ℕ). round binary32 false k m) (sym left) (one-mul (2 ^ 149))
      ∙ sym (rem_value x s (d * 2 ^ e) (2 ^ 149) (pow_pos 149) p.value)
