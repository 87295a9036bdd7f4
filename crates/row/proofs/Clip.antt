-- How many ends of a piece lie outside the row, and that one fewer does once an end is clipped: so three calls of
-- `span` are enough for every piece. Assumes nothing.
use mathlib.Core.Path.{◌≡◌, refl, sym, ap, ap₂, ◌∙◌}
use mathlib.Core.Bool.{Bool, true, false, cond, ◌||◌}
use Prim.Native.Nat.{ℕ, zero, suc, ◌+◌, ◌-◌, ◌*◌, ◌/◌, ◌%◌, ◌^◌, ◌<◌, ◌≤◌, compare}
use native.Mathlib.Nat.{add_comm}
use native.Mathlib.Omega.{arith}
use lib.IntN.{ℤ, pos}
use lib.Count.{count_trailing_zeros}
use lib.Dec.{ltb}
use lib.ListN.{length}
use lib.Ieee.{Float, Format, size, nearest, low, emax, prec, nan, inf, fin, binary32, lt, le, minus, of_int, of_bits, round, units, odd, up, down}
use borrow.Author.Tests.{le-ltb}
use Rattle.float.specs.Ops.{f0, f1, ◌⊖◌, ◌⊗◌, ◌⊘◌}
use Rattle.whole.specs.Whole.{of_whole}
use Rattle.accumulation.specs.Area.{Cells, add_of}
use Rattle.accumulation.proofs.Adding.{length_add}
use Rattle.row.specs.Row.{inside_of, clip_of, left_end, right_end, span_by, span_of}
use Rattle.row.specs.Laws.{ThreeAreEnough}

-- ---- floats

lt_irrefl : (x : Float) → lt x x ≡ false
unfolding lt
lt_irrefl nan = refl
lt_irrefl (inf true) = refl
lt_irrefl (inf false) = refl
lt_irrefl (fin true m e) = le-ltb (m * up e * down e) _ (omega arith)
lt_irrefl (fin false m e) = le-ltb (m * up e * down e) _ (omega arith)

fin_not_below : (m : ℕ) (e : ℤ) → lt (fin false m e) f0 ≡ false
unfolding lt of_bits
fin_not_below m e = le-ltb (m * up e * down (pos 0)) (0 * up (pos 0) * down e) (omega arith)

odd_not_below : (d q k l : ℕ) → lt (odd d false q k l) f0 ≡ false
unfolding odd lt of_bits
odd_not_below d zero k l = refl
odd_not_below d (suc q) k l = let t = count_trailing_zeros d (suc q) in fin_not_below (suc q / 2 ^ t) (minus (k + t) l)

pick_not_below : (b : Bool) (x : Float) → lt x f0 ≡ false → lt (cond b x (inf false)) f0 ≡ false
unfolding lt of_bits
pick_not_below true x h = h
pick_not_below false x h = refl

units_not_below : (f : Format) (q k : ℕ) → lt (units f false q k) f0 ≡ false
unfolding units
units_not_below f q k = pick_not_below (ltb (q * 2 ^ k) (2 ^ (low f + suc (emax f)))) (odd (suc (prec f)) false q k (low f)) (odd_not_below (suc (prec f)) q k (low f))

whole_not_below : (n : ℕ) → lt (of_whole n) f0 ≡ false
unfolding of_int round
whole_not_below n =
    let m = n * 2 ^ low binary32 in
    let k = size (m / 1) - prec binary32 in
    let u = 1 * 2 ^ k in
    units_not_below binary32 (nearest (m / u) (compare (m % u * 2) u)) k

-- ---- ends outside

-- 1 where x lies left of the row or right of it
unfoldable pub out : ℕ → Float → ℕ
out w x = cond (lt x f0 || lt (of_whole w) x) 1 0

unfoldable pub outside : ℕ → Float → Float → ℕ
outside w xa xb = out w xa + out w xb

pub or_true : (b : Bool) → (b || true) ≡ true
or_true true = refl
or_true false = refl

out_le : (w : ℕ) (x : Float) → out w x ≤ 1
unfolding out
out_le w x = small (lt x f0 || lt (of_whole w) x)
  where
    small : (b : Bool) → cond b 1 0 ≤ 1
    small true = omega arith
    small false = omega arith

out_left : (w : ℕ) (x : Float) → lt x f0 ≡ true → out w x ≡ 1
unfolding out
out_left w x h = simp h

out_right : (w : ℕ) (x : Float) → lt (of_whole w) x ≡ true → out w x ≡ 1
unfolding out
out_right w x h = simp (h, or_true)

out_zero : (w : ℕ) → out w f0 ≡ 0
unfolding out
out_zero w = simp (lt_irrefl, whole_not_below)

out_width : (w : ℕ) → out w (of_whole w) ≡ 0
unfolding out
out_width w = simp (lt_irrefl, whole_not_below)

ordered : (w : ℕ) (b : Bool) (xa xb : Float) → outside w (cond b xa xb) (cond b xb xa) ≡ outside w xa xb
unfolding outside
ordered w true xa xb = refl
ordered w false xa xb = add_comm (out w xb) (out w xa)

left_falls : (w : ℕ) (lo hi : Float) → lt lo f0 ≡ true → outside w f0 hi < outside w lo hi
unfolding outside
left_falls w lo hi h = let a = out_left w lo h in let b = out_zero w in omega arith

right_falls : (w : ℕ) (lo hi : Float) → lt (of_whole w) hi ≡ true → outside w lo (of_whole w) < outside w lo hi
unfolding outside
right_falls w lo hi h = let a = out_right w hi h in let b = out_width w in omega arith

order_outside : (w : ℕ) (xa xb : Float) → outside w (left_end xa xb) (right_end xa xb) ≡ outside w xa xb
order_outside w xa xb = ordered w (le xa xb) xa xb

outside_le : (w : ℕ) (xa xb : Float) → outside w xa xb ≤ 2
unfolding outside
outside_le w xa xb = let a = out_le w xa in let b = out_le w xb in omega arith

-- ---- what is clipped once is clipped as often as need be

module _ (R S : Cells → Float → Float → Float → Cells) (cells : Cells) (lo hi a : Float)
    (same : (l : Cells) (xa xb b : Float) → length l ≡ length cells
    → outside (length cells) xa xb < outside (length cells) lo hi → R l xa xb b ≡ S l xa xb b) where
  clip_same : clip_of R cells lo hi a ≡ clip_of S cells lo hi a
  unfolding clip_of
  clip_same = go (le width lo) (le hi f0) (lt lo f0) (lt width hi) refl refl
    where
      width : Float
      width = of_whole (length cells)

      first : Cells
      first = add_of cells 0 (a ⊗ (lo ⊘ (lo ⊖ hi)))

      rest : Float
      rest = a ⊗ (f1 ⊖ lo ⊘ (lo ⊖ hi))

      part : Float
      part = a ⊗ ((width ⊖ lo) ⊘ (hi ⊖ lo))

      go : (p q r s : Bool) → lt lo f0 ≡ r → lt width hi ≡ s
          → cond p cells (cond q (add_of cells 0 a) (cond r (R first f0 hi rest) (cond s (R cells lo width part) (inside_of cells lo hi a))))
          ≡ cond p cells (cond q (add_of cells 0 a) (cond r (S first f0 hi rest) (cond s (S cells lo width part) (inside_of cells lo hi a))))
      go true q r s e f = refl
      go false true r s e f = refl
      go false false true s e f = same first f0 hi rest (length_add cells 0 (a ⊗ (lo ⊘ (lo ⊖ hi)))) (left_falls (length cells) lo hi e)
      go false false false true e f = same cells lo width part refl (right_falls (length cells) lo hi f)
      go false false false false e f = refl

enough : (n m : ℕ) (cells : Cells) (xa xb a : Float) → outside (length cells) xa xb < n → outside (length cells) xa xb < m
    → span_by n cells xa xb a ≡ span_by m cells xa xb a
unfolding span_by
enough zero m cells xa xb a h g = absurd (omega arith)
enough (suc n) zero cells xa xb a h g = absurd (omega arith)
enough (suc n) (suc m) cells xa xb a h g =
    let o = order_outside (length cells) xa xb in
    clip_same (span_by n) (span_by m) cells (left_end xa xb) (right_end xa xb) a
    (λ l xc xd b e f.
    let k : outside (length l) xc xd ≡ outside (length cells) xc xd = ap (λ (w : ℕ). outside w xc xd) e in
    enough n m l xc xd b (omega arith) (omega arith))

-- a call more, or any number of them, changes nothing
pub three_are_enough : ThreeAreEnough
three_are_enough n cells xa xb a = let o = outside_le (length cells) xa xb in enough (4 + n) 3 cells xa xb a (omega arith) (omega arith)

span_again : (cells : Cells) (xa xb a : Float) → span_of cells xa xb a ≡ clip_of span_of cells (left_end xa xb) (right_end xa xb) a
unfolding span_by
span_again cells xa xb a = sym (three_are_enough 0 cells xa xb a)

-- ---- the five ways that `span` returns

-- its locals
pub record Locals (cells : Cells) (xa xb width lo hi : Float) : Type 0 where
  pub width_is : width ≡ of_whole (length cells)
  pub lo_is : lo ≡ left_end xa xb
  pub hi_is : hi ≡ right_end xa xb

module _ {cells : Cells} {xa xb width lo hi : Float} (e : Locals cells xa xb width lo hi) where
  module _ (area : Float) where
    abbrev outer : Float
    outer = lo ⊘ (lo ⊖ hi)

    abbrev cut_left : Cells → Cells
    cut_left next = span_of next f0 hi (area ⊗ (f1 ⊖ outer))

    abbrev cut_right : Cells
    cut_right = span_of cells lo width (area ⊗ ((width ⊖ lo) ⊘ (hi ⊖ lo)))

    whole : cond (le width lo) cells (cond (le hi f0) (add_of cells 0 area)
        (cond (lt lo f0) (cut_left (add_of cells 0 (area ⊗ outer))) (cond (lt width hi) cut_right (inside_of cells lo hi area))))
        ≡ span_of cells xa xb area
    unfolding clip_of
    whole = rw (e.width_is, e.lo_is, e.hi_is) (sym (span_again cells xa xb area))

    pub span_past : le width lo ≡ true → cells ≡ span_of cells xa xb area
    span_past p = rw p at whole

    module _ {after : Cells} (p : le width lo ≡ false) where
      pub span_before : le hi f0 ≡ true → after ≡ add_of cells 0 area → after ≡ span_of cells xa xb area
      span_before q h = h ∙ rw (p, q) at whole

      pub span_left : le hi f0 ≡ false → lt lo f0 ≡ true → {next : Cells} → next ≡ add_of cells 0 (area ⊗ outer)
          → after ≡ cut_left next → after ≡ span_of cells xa xb area
      span_left q r n h = rw n at h ∙ rw (p, q, r) at whole

      pub span_right : le hi f0 ≡ false → lt lo f0 ≡ false → lt width hi ≡ true → after ≡ cut_right → after ≡ span_of cells xa xb area
      span_right q r s h = h ∙ rw (p, q, r, s) at whole

      pub span_inside : le hi f0 ≡ false → lt lo f0 ≡ false → lt width hi ≡ false → after ≡ inside_of cells lo hi area
          → after ≡ span_of cells xa xb area
      span_inside q r s h = h ∙ rw (p, q, r, s) at whole

  -- what remains has one end fewer outside
  module _ {t : ℕ} (m : outside (length cells) xa xb ≡ t) where
    counted : outside (length cells) lo hi ≡ t
    counted = ap₂ (outside (length cells)) e.lo_is e.hi_is ∙ order_outside (length cells) xa xb ∙ m

    pub left_call : (next : Cells) → length next ≡ length cells → lt lo f0 ≡ true → outside (length next) f0 hi < t
    left_call next l n =
        let f = left_falls (length cells) lo hi n in
        let k : outside (length next) f0 hi ≡ outside (length cells) f0 hi = ap (λ (x : ℕ). outside x f0 hi) l in
        let c = counted in
        omega arith

    pub right_call : lt width hi ≡ true → outside (length cells) lo width < t
    right_call n =
        let f = right_falls (length cells) lo hi (rw e.width_is at n) in
        let k : outside (length cells) lo width ≡ outside (length cells) lo (of_whole (length cells)) = ap (outside (length cells) lo) e.width_is in
        let c = counted in
        omega arith
