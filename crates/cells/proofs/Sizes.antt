-- A size that is too large by the code's test, and one that is allowed. Assumes nothing.
use mathlib.Core.Path.{◌≡◌, refl, sym}
use mathlib.Core.Bool.{Bool, true, false, true≢false, ◌||◌}
use mathlib.Core.List.{List}
use mathlib.Core.Logic.{inl, inr}
use Prim.Native.Nat.{ℕ, ◌≤◌}
use native.Mathlib.Nat.{mul-le-mul}
use lib.Dec.{ltb}
use lib.ListN.{length, take}
use lib.Seq.{length-take-le}
use borrow.Author.Tests.{ltb-true, ltb-false, lt-ltb, le-ltb}
use Rattle.cells.specs.declared.Size.{Size}
use Rattle.cells.specs.Cells.{cells_of, too_large, TooLarge, SizeAllowed}

pub or_true : (a : Bool) → (a || true) ≡ true
or_true true = refl
or_true false = refl

pub size_allowed : (size : Size) → too_large size ≡ false → SizeAllowed size
size_allowed size = go (ltb 4096 size.width) refl
  where
    go : (a : Bool) → ltb 4096 size.width ≡ a → (a || ltb 4096 size.height) ≡ false → SizeAllowed size
    go true e f = absurd (true≢false f)
    go false e f = (ltb-false 4096 size.width e, ltb-false 4096 size.height f)

pub size_large : (size : Size) → too_large size ≡ true → TooLarge size
size_large size = go (ltb 4096 size.width) refl
  where
    go : (a : Bool) → ltb 4096 size.width ≡ a → (a || ltb 4096 size.height) ≡ true → TooLarge size
    go true e f = inl (ltb-true 4096 size.width e)
    go false e f = inr (ltb-true 4096 size.height f)

pub allowed_small : (size : Size) → SizeAllowed size → too_large size ≡ false
allowed_small size s = rw (le-ltb 4096 size.width s.0, le-ltb 4096 size.height s.1) refl

pub large_test : (size : Size) → TooLarge size → too_large size ≡ true
large_test size (inl h) = rw (lt-ltb 4096 size.width h) refl
large_test size (inr h) = rw (lt-ltb 4096 size.height h) (or_true (ltb 4096 size.width))

-- ---- its cells

pub cells_fit : (size : Size) → too_large size ≡ false → cells_of size ≤ 16777216
cells_fit size e = let s = size_allowed size e in mul-le-mul s.0 s.1

-- the front of a mask that has them all
pub cells_long : (size : Size) (mask : List ℕ) → cells_of size ≤ length mask → cells_of size ≡ length (take (cells_of size) mask)
cells_long size mask h = sym (length-take-le (cells_of size) mask h)
