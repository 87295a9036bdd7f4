-- What is proved of fractions, so that a reader sees that the definitions are those of the rational numbers:
-- `proofs/Laws.antt` has an element of each record. Statements only.
use Rattle.std.specs.Prelude.{◌⊎◌, ℕ, ◌+◌, ◌*◌}
use Rattle.fraction.specs.Fraction.{Fraction, ◌≤ᶠ◌, ◌<ᶠ◌, ◌≈ᶠ◌, natᶠ, ◌+ᶠ◌, ◌-ᶠ◌, ◌*ᶠ◌, ◌/ᶠ◌, negᶠ, absᶠ, minᶠ, maxᶠ, clampᶠ, invᶠ, Near, Within}

-- `≤ᶠ` is a total order, `≈ᶠ` is its equality, and `<ᶠ` is its strict part
pub record OrderLaws : Type 0 where
  pub refl : (x : Fraction) → x ≤ᶠ x
  pub trans : (x y z : Fraction) → x ≤ᶠ y → y ≤ᶠ z → x ≤ᶠ z
  pub antisym : (x y : Fraction) → x ≤ᶠ y → y ≤ᶠ x → x ≈ᶠ y
  pub total : (x y : Fraction) → (x ≤ᶠ y) ⊎ (y <ᶠ x)
  pub strict : (x y : Fraction) → x <ᶠ y → ¬ (y ≤ᶠ x)

-- an ordered field: whatever else is true of sums and products follows
pub record FieldLaws : Type 0 where
  pub add_comm : (x y : Fraction) → x +ᶠ y ≈ᶠ y +ᶠ x
  pub add_assoc : (x y z : Fraction) → x +ᶠ y +ᶠ z ≈ᶠ x +ᶠ (y +ᶠ z)
  pub add_zero : (x : Fraction) → x +ᶠ natᶠ 0 ≈ᶠ x
  pub add_neg : (x : Fraction) → x +ᶠ negᶠ x ≈ᶠ natᶠ 0
  pub sub_is : (x y : Fraction) → x -ᶠ y ≈ᶠ x +ᶠ negᶠ y
  pub mul_comm : (x y : Fraction) → x *ᶠ y ≈ᶠ y *ᶠ x
  pub mul_assoc : (x y z : Fraction) → x *ᶠ y *ᶠ z ≈ᶠ x *ᶠ (y *ᶠ z)
  pub mul_one : (x : Fraction) → x *ᶠ natᶠ 1 ≈ᶠ x
  pub mul_add : (x y z : Fraction) → x *ᶠ (y +ᶠ z) ≈ᶠ x *ᶠ y +ᶠ x *ᶠ z
  pub inv_mul : (x : Fraction) → ¬ (x ≈ᶠ natᶠ 0) → invᶠ x *ᶠ x ≈ᶠ natᶠ 1
  pub div_mul : (x y : Fraction) → ¬ (y ≈ᶠ natᶠ 0) → x /ᶠ y *ᶠ y ≈ᶠ x
  pub add_mono : (x y z w : Fraction) → x ≤ᶠ y → z ≤ᶠ w → x +ᶠ z ≤ᶠ y +ᶠ w
  pub mul_mono : (x y z : Fraction) → natᶠ 0 ≤ᶠ x → y ≤ᶠ z → x *ᶠ y ≤ᶠ x *ᶠ z
  -- equal numbers have equal sums and products
  pub add_cong : (x y z w : Fraction) → x ≈ᶠ y → z ≈ᶠ w → x +ᶠ z ≈ᶠ y +ᶠ w
  pub mul_cong : (x y z w : Fraction) → x ≈ᶠ y → z ≈ᶠ w → x *ᶠ z ≈ᶠ y *ᶠ w
  -- and the naturals are among them
  pub nat_add : (m n : ℕ) → natᶠ (m + n) ≈ᶠ natᶠ m +ᶠ natᶠ n
  pub nat_mul : (m n : ℕ) → natᶠ (m * n) ≈ᶠ natᶠ m *ᶠ natᶠ n

-- size, smaller, larger, held between 0 and 1
pub record SizeLaws : Type 0 where
  pub abs_above : (x : Fraction) → natᶠ 0 ≤ᶠ x → absᶠ x ≈ᶠ x
  pub abs_below : (x : Fraction) → x ≤ᶠ natᶠ 0 → absᶠ x ≈ᶠ negᶠ x
  pub min_left : (x y : Fraction) → x ≤ᶠ y → minᶠ x y ≈ᶠ x
  pub min_right : (x y : Fraction) → y ≤ᶠ x → minᶠ x y ≈ᶠ y
  pub max_left : (x y : Fraction) → y ≤ᶠ x → maxᶠ x y ≈ᶠ x
  pub max_right : (x y : Fraction) → x ≤ᶠ y → maxᶠ x y ≈ᶠ y
  pub clamp_inside : (x : Fraction) → natᶠ 0 ≤ᶠ x → x ≤ᶠ natᶠ 1 → clampᶠ x ≈ᶠ x
  pub clamp_nonneg : (x : Fraction) → natᶠ 0 ≤ᶠ clampᶠ x
  pub clamp_le_one : (x : Fraction) → clampᶠ x ≤ᶠ natᶠ 1

-- how errors grow
pub record ErrorLaws : Type 0 where
  pub near_is : (x y e : Fraction) → absᶠ (x -ᶠ y) ≤ᶠ e → Near x y e
  pub is_near : (x y e : Fraction) → Near x y e → absᶠ (x -ᶠ y) ≤ᶠ e
  pub near_trans : (x y z d e : Fraction) → Near x y d → Near y z e → Near x z (d +ᶠ e)
  pub near_add : (x X y Y d e : Fraction) → Near x X d → Near y Y e → Near (x +ᶠ y) (X +ᶠ Y) (d +ᶠ e)
  pub near_sub : (x X y Y d e : Fraction) → Near x X d → Near y Y e → Near (x -ᶠ y) (X -ᶠ Y) (d +ᶠ e)
  pub near_mul : (x X y Y d e b c : Fraction) → Near x X d → Near y Y e → Within X b → Within y c → Near (x *ᶠ y) (X *ᶠ Y) (d *ᶠ c +ᶠ b *ᶠ e)
  pub near_div : (x X y Y d e l q : Fraction) → Near x X d → Near y Y e → l ≤ᶠ absᶠ Y → e <ᶠ l → Within (X /ᶠ Y) q
      → Near (x /ᶠ y) (X /ᶠ Y) ((d +ᶠ q *ᶠ e) /ᶠ (l -ᶠ e))
  pub near_clamp : (x X e : Fraction) → natᶠ 0 ≤ᶠ e → Near x X e → Near (clampᶠ x) (clampᶠ X) e
