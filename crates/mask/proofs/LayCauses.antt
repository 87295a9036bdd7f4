-- When a laying-on is done, and why it is refused (specs/Laws.antt, LaidExactlyWhen). Assumes nothing.
use mathlib.Core.Path.{◌≡◌, refl}
use mathlib.Core.Bool.{Bool, true, false, ◌||◌}
use mathlib.Core.Logic.{◌⊎◌, inl, inr}
use Prim.Native.Nat.{ℕ, ◌<◌}
use lib.Dec.{ltb}
use borrow.Author.Tests.{ltb-true, ltb-false, lt-ltb, le-ltb}
use Rattle.fault.specs.declared.Fault.{Fault}
use Rattle.fault.specs.declared.Fault.TheVariants.{MaskTooLarge, BufferTooShort}
use Rattle.cells.specs.Cells.{cells_of, too_large}
use Rattle.cells.proofs.Sizes.{or_true, size_allowed, size_large, allowed_small, large_test}
use Rattle.ink.specs.Lent.{Lent, lent_short, LentShort}
use Rattle.ink.proofs.Lent.{lent_enough, lent_short_law, enough_test, short_test}
use Rattle.laying.specs.Laying.{Laying}
use Rattle.mask.specs.Calls.{lay_answer}
use Rattle.mask.specs.Laws.{CanLay, FirstLayCause, either_too_large, either_short, LaidExactlyWhen}
use Rattle.std.specs.Prelude.{Ok, Err}
use Rattle.mask.proofs.Decided.{Decided, done_only, refused_only}

module _ (l : Laying) (lent : Lent) (other : ℕ) where
  abbrev Told : Type 0
  Told = Decided (CanLay l lent other) (FirstLayCause l lent other)

  -- one of the two is so
  pub decided : Told
  decided =
      go (too_large l.size) (too_large l.other_size) (lent_short l.size lent) (ltb other (cells_of l.other_size)) refl refl refl refl
    where
      go : (a b c d : Bool) → too_large l.size ≡ a → too_large l.other_size ≡ b → lent_short l.size lent ≡ c
          → ltb other (cells_of l.other_size) ≡ d → Told
      go true b c d e f g h = inr (MaskTooLarge, either_too_large (inl (size_large l.size e)))
      go false true c d e f g h = inr (MaskTooLarge, either_too_large (inr (size_large l.other_size f)))
      go false false true d e f g h =
          let short = inl (lent_short_law l.size lent g) in
          inr (BufferTooShort, either_short (size_allowed l.size e) (size_allowed l.other_size f) short)
      go false false false true e f g h =
          let short = inr (ltb-true other (cells_of l.other_size) h) in
          inr (BufferTooShort, either_short (size_allowed l.size e) (size_allowed l.other_size f) short)
      go false false false false e f g h = inl (record {
        size_allowed = size_allowed l.size e;
        other_allowed = size_allowed l.other_size f;
        enough = lent_enough l.size lent g;
        other_cells = ltb-false other (cells_of l.other_size) h;
      })

  pub can_lay : CanLay l lent other → lay_answer l lent other ≡ Ok tt
  can_lay c =
      rw (
        allowed_small l.size c.size_allowed,
        allowed_small l.other_size c.other_allowed,
        enough_test l.size lent c.enough,
        le-ltb other (cells_of l.other_size) c.other_cells,
      ) refl

  pub cannot_lay : (f : Fault) → FirstLayCause l lent other f → lay_answer l lent other ≡ Err f
  cannot_lay f (either_too_large (inl h)) = rw (large_test l.size h) refl
  cannot_lay f (either_too_large (inr h)) = rw (large_test l.other_size h, or_true (too_large l.size)) refl
  cannot_lay f (either_short s o h) =
      rw (allowed_small l.size s, allowed_small l.other_size o, short h) refl
    where
      short : LentShort l.size lent ⊎ (other < cells_of l.other_size) → (lent_short l.size lent || ltb other (cells_of l.other_size)) ≡ true
      short (inl h) = rw (short_test l.size lent h) refl
      short (inr h) = rw (lt-ltb other (cells_of l.other_size) h) (or_true (lent_short l.size lent))

pub laid_exactly_when : LaidExactlyWhen
laid_exactly_when = record {
  done_only = λ l lent other. done_only (can_lay l lent other) (cannot_lay l lent other) (decided l lent other);
  done_always = can_lay;
  refused_only = λ l lent other. refused_only (can_lay l lent other) (cannot_lay l lent other) (decided l lent other);
  refused_always = cannot_lay;
}
