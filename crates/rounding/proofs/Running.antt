-- The law of running sums. Assumes nothing.
use mathlib.Core.List.{List, [], ◌∷◌}
use native.Mathlib.Omega.{arith}
use lib.Ieee.{Float, Format, add}
use lib.Ieee.Fits.{add-fits}
use Rattle.fraction.specs.Fraction.{Fraction, natᶠ, ◌+ᶠ◌, ◌*ᶠ◌, Near}
use Rattle.fraction.proofs.Linear.{le_at, add_at, over}
use Rattle.fraction.proofs.Order.{zero_mul, one_more, of_eq, sym≈}
use Rattle.fraction.proofs.Near.{near_trans, near_add, near_refl, near_weaken, within_weaken}
use Rattle.rounding.specs.Value.{val, roundoff}
use Rattle.rounding.specs.Running.{running, exactly, count, RunningLaw}
use Rattle.rounding.proofs.Round.{sum_near}
use Rattle.rounding.proofs.Ops.{add_rounds}

-- an error in the start is there at the end
shift : (x y e : Fraction) (xs : List Float) → Near x y e → Near (exactly x xs) (exactly y xs) e
unfolding exactly
shift x y e [] h = h
shift x y e (a ∷ xs) h =
    shift (x +ᶠ val a) (y +ᶠ val a) e xs
    (near_weaken (near_add h (near_refl (val a))) (over (e ∷ natᶠ 0 ∷ []) (λ N n E O. le_at N (add_at N E O) E n (omega (arith, O.is)))))

pub running_near : (f : Format) → RunningLaw f
unfolding running exactly
running_near f B r [] b p q s = (p, near_weaken (near_refl (val r)) (of_eq (sym≈ (zero_mul (roundoff f *ᶠ B)))))
running_near f B r (a ∷ xs) b p q s =
    let R = add_rounds f r a p s.0 q s.1 (within_weaken s.2 b) in
    let i = running_near f B (add f r a) xs b R.fine (add-fits f r a) s.3 in
    let e = shift (val (add f r a)) (val r +ᶠ val a) (roundoff f *ᶠ B) xs (sum_near R s.2) in
    (i.0, near_weaken (near_trans i.1 e) (of_eq (sym≈ (one_more (count xs) (roundoff f *ᶠ B)))))
