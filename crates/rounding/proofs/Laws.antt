-- The laws of specs/Laws.antt. Assumes nothing.
use Prim.Native.Nat.{ℕ, ◌^◌}
use lib.Ieee.{Float, Format}
use Rattle.fraction.specs.Whole.{Whole}
use Rattle.fraction.proofs.Linear.{At}
use Rattle.rounding.specs.Value.{val}
use Rattle.rounding.specs.Laws.{OperationLaws, Units, ExactLaws, ComparisonLaws}
use Rattle.rounding.proofs.Ops as ops
use Rattle.rounding.proofs.Exactly as exactly
use Rattle.rounding.proofs.Compare as compare

pub operation_laws : (f : Format) → OperationLaws f
operation_laws f = record {
  add_rounds = λ x y X Y. ops.add_rounds f x y X.fine Y.fine X.held Y.held;
  sub_rounds = λ x y X Y. ops.sub_rounds f x y X.fine Y.fine X.held Y.held;
  mul_rounds = λ x y X Y. ops.mul_rounds f x y X.fine Y.fine;
  div_rounds = λ x y q X Y. ops.div_rounds f x y q X.fine Y.fine;
}

abbrev units : {k : ℕ} {x : Float} {z : Whole} → Units k x z → At (2 ^ k) (val x)
units {z = z} u = record { z = z; is = u.is }

pub exact_laws : (f : Format) → ExactLaws f
exact_laws f = record {
  add_exact = λ k x y a b X Y A B l. exactly.add_exact f k x y X.fine Y.fine l (units A) (units B);
  sub_exact = λ k x y a b X Y A B l. exactly.sub_exact f k x y X.fine Y.fine l (units A) (units B);
  mul_exact = λ j k x y a b X Y A B l. exactly.mul_exact f j k x y X.fine Y.fine l (units A) (units B);
}

pub comparison_laws : ComparisonLaws
comparison_laws = record {
  lt_val = compare.lt_val;
  val_lt = compare.val_lt;
  le_val = compare.le_val;
  val_le = compare.val_le;
  eq_val = compare.eq_val;
  val_eq = compare.val_eq;
}
