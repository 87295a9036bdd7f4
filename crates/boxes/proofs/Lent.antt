-- The walk over boxes in lent floats: the boxes that are left at place i of n. Assumes nothing.
use mathlib.Core.Path.{◌≡◌, refl, ap}
use mathlib.Core.List.{List, ◌∷◌}
use Prim.Native.Nat.{ℕ, zero, suc, ◌+◌, ◌-◌, ◌*◌, ◌<◌}
use native.Mathlib.Omega.{arith}
use lib.Ieee.{Float}
use lib.ListN.{length}
use Rattle.shape.specs.declared.RoundedBox.{RoundedBox}
use Rattle.boxes.specs.Lent.{box_at, boxes_from, boxes_in}

pub boxes_from_length : (n at : ℕ) (xs : List Float) → length (boxes_from at xs n) ≡ n
boxes_from_length zero at xs = refl
boxes_from_length (suc n) at xs = ap suc (boxes_from_length n (at + 10) xs)

pub left_length : (xs : List Float) (n : ℕ) → length (boxes_in xs n) ≡ n
left_length xs n = boxes_from_length n 0 xs

-- the boxes that are left at place i
abbrev pub left : List Float → ℕ → ℕ → List RoundedBox
left xs n i = boxes_from (i * 10) xs (n - i)

pub left_cons : (xs : List Float) (n i : ℕ) → i < n → left xs n i ≡ box_at xs (i * 10) ∷ left xs n (i + 1)
left_cons xs n i l =
    let e : n - i ≡ suc (n - (i + 1)) = omega arith in
    let o : (i + 1) * 10 ≡ i * 10 + 10 = omega arith in
    rw (e, o)
