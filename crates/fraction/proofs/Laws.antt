-- The laws of specs/Laws.antt. Assumes nothing.
use mathlib.Core.List.{[], ◌∷◌}
use Prim.Native.Nat.{ℕ, ◌+◌, ◌*◌}
use native.Mathlib.Omega.{arith}
use Rattle.fraction.specs.Fraction.{Fraction, ◌≤ᶠ◌, ◌<ᶠ◌, ◌≈ᶠ◌, natᶠ, ◌+ᶠ◌, ◌-ᶠ◌, ◌*ᶠ◌, negᶠ, absᶠ}
use Rattle.fraction.specs.Laws.{OrderLaws, FieldLaws, SizeLaws, ErrorLaws}
use Rattle.fraction.proofs.Linear.{at, at_le, at_lt, eq_at, neg_at, abs_at, over, trans}
use Rattle.fraction.proofs.Order as order
use Rattle.fraction.proofs.Near as near
use Rattle.fraction.proofs.Ring.{cong_add, cong_mul}
use Rattle.fraction.proofs.Clamp as clamp
use Rattle.fraction.proofs.Abs.{abs_self}
use Rattle.fraction.proofs.Quotient as quotient

strict : (x y : Fraction) → x <ᶠ y → ¬ (y ≤ᶠ x)
strict x y h k = over (x ∷ y ∷ []) (λ N n X Y. omega (arith, at_lt N X Y n h, at_le N Y X k))

pub order_laws : OrderLaws
order_laws = record {
  refl = order.refl≤;
  trans = λ x y z. trans;
  antisym = λ x y. order.antisym;
  total = order.le_or_lt;
  strict = strict;
}

add_comm : (x y : Fraction) → x +ᶠ y ≈ᶠ y +ᶠ x
add_comm x y = over (x ∷ y ∷ []) (λ N n X Y. eq_at N (search at) (search at) n (omega arith))

add_assoc : (x y z : Fraction) → x +ᶠ y +ᶠ z ≈ᶠ x +ᶠ (y +ᶠ z)
add_assoc x y z = over (x ∷ y ∷ z ∷ []) (λ N n X Y Z. eq_at N (search at) (search at) n (omega arith))

add_zero : (x : Fraction) → x +ᶠ natᶠ 0 ≈ᶠ x
add_zero x = over (x ∷ natᶠ 0 ∷ []) (λ N n X O. eq_at N (search at) (search at) n (omega (arith, O.is)))

add_neg : (x : Fraction) → x +ᶠ negᶠ x ≈ᶠ natᶠ 0
add_neg x = over (x ∷ natᶠ 0 ∷ []) (λ N n X O. eq_at N (search at) (search at) n (omega (arith, O.is)))

sub_is : (x y : Fraction) → x -ᶠ y ≈ᶠ x +ᶠ negᶠ y
sub_is x y = over (x ∷ y ∷ []) (λ N n X Y. eq_at N (search at) (search at) n (omega arith))

nat_add : (m n : ℕ) → natᶠ (m + n) ≈ᶠ natᶠ m +ᶠ natᶠ n
unfolding ◌+ᶠ◌
nat_add m n = record { eq = omega arith }

nat_mul : (m n : ℕ) → natᶠ (m * n) ≈ᶠ natᶠ m *ᶠ natᶠ n
unfolding ◌*ᶠ◌
nat_mul m n = record { eq = omega arith }

pub field_laws : FieldLaws
field_laws = record {
  add_comm = add_comm;
  add_assoc = add_assoc;
  add_zero = add_zero;
  add_neg = add_neg;
  sub_is = sub_is;
  mul_comm = order.mul_comm;
  mul_assoc = order.mul_assoc;
  mul_one = order.mul_one;
  mul_add = order.mul_add;
  inv_mul = order.inv_mul;
  div_mul = order.div_mul;
  add_mono = λ x y z w. order.add_mono;
  mul_mono = λ x y z. order.mul_mono;
  add_cong = λ x y z w. cong_add;
  mul_cong = λ x y z w. cong_mul;
  nat_add = nat_add;
  nat_mul = nat_mul;
}

abs_below : (x : Fraction) → x ≤ᶠ natᶠ 0 → absᶠ x ≈ᶠ negᶠ x
abs_below x h = over (x ∷ natᶠ 0 ∷ []) (λ N n X O. eq_at N (abs_at N n X) (neg_at N X) n (omega (arith, O.is, at_le N X O h)))

pub size_laws : SizeLaws
size_laws = record {
  abs_above = λ x. abs_self;
  abs_below = abs_below;
  min_left = clamp.min_left;
  min_right = clamp.min_right;
  max_left = clamp.max_left;
  max_right = clamp.max_right;
  clamp_inside = clamp.clamp_inside;
  clamp_nonneg = clamp.clamp_nonneg;
  clamp_le_one = clamp.clamp_le_one;
}

pub error_laws : ErrorLaws
error_laws = record {
  near_is = λ x y e h. near.near_of_within (near.within_of_abs h);
  is_near = λ x y e h. near.abs_of_within (near.within_of_near h);
  near_trans = λ x y z d e. near.near_trans;
  near_add = λ x X y Y d e. near.near_add;
  near_sub = λ x X y Y d e. near.near_sub;
  near_mul = λ x X y Y d e b c. near.near_mul;
  near_div = λ x X y Y d e l q h k low room w. quotient.near_div y Y e l k low room x X d q h w;
  near_clamp = λ x X e. clamp.near_clamp;
}
