-- Whether enough is lent for a mask and its ink, by the test and as statements. Assumes nothing.
use mathlib.Core.Path.{◌≡◌, refl}
use mathlib.Core.Bool.{Bool, true, false, true≢false, ◌||◌}
use mathlib.Core.Logic.{inl, inr}
use Prim.Native.Nat.{◌≤◌}
use lib.Dec.{ltb}
use borrow.Author.Tests.{ltb-true, ltb-false, lt-ltb, le-ltb}
use Rattle.cells.specs.declared.Size.{Size}
use Rattle.cells.specs.Cells.{cells_of}
use Rattle.cells.proofs.Sizes.{or_true}
use Rattle.ink.specs.Lent.{Lent, ink_needed, lent_short, LentShort, LentEnough}

module _ (size : Size) (lent : Lent) where
  pub lent_enough : lent_short size lent ≡ false → LentEnough size lent
  lent_enough = go (ltb lent.mask (cells_of size)) refl
    where
      go : (a : Bool) → ltb lent.mask (cells_of size) ≡ a → (a || ltb lent.ink (ink_needed size)) ≡ false → LentEnough size lent
      go true e f = absurd (true≢false f)
      go false e f = record { cells = ltb-false lent.mask (cells_of size) e; ink = ltb-false lent.ink (ink_needed size) f }

  pub lent_short_law : lent_short size lent ≡ true → LentShort size lent
  lent_short_law = go (ltb lent.mask (cells_of size)) refl
    where
      go : (a : Bool) → ltb lent.mask (cells_of size) ≡ a → (a || ltb lent.ink (ink_needed size)) ≡ true → LentShort size lent
      go true e f = inl (ltb-true lent.mask (cells_of size) e)
      go false e f = inr (ltb-true lent.ink (ink_needed size) f)

  pub enough_test : LentEnough size lent → lent_short size lent ≡ false
  enough_test h = rw (le-ltb lent.mask (cells_of size) h.cells, le-ltb lent.ink (ink_needed size) h.ink) refl

  pub short_test : LentShort size lent → lent_short size lent ≡ true
  short_test (inl h) = rw (lt-ltb lent.mask (cells_of size) h) refl
  short_test (inr h) = rw (lt-ltb lent.ink (ink_needed size) h) (or_true (ltb lent.mask (cells_of size)))

-- with enough numbers for the ink it is the mask that tells
or_false : (a : Bool) → (a || false) ≡ a
or_false true = refl
or_false false = refl

pub short_by_mask : (size : Size) (lent : Lent) → ink_needed size ≤ lent.ink → lent_short size lent ≡ ltb lent.mask (cells_of size)
short_by_mask size lent h = rw (le-ltb lent.ink (ink_needed size) h) (or_false (ltb lent.mask (cells_of size)))
