-- When a laying-on by corners is done, why it is refused, and that it is the laying-on by the offset between them
-- (specs/Laws.antt, LaidPlacedExactlyWhen and PlacedIsByOffset). Assumes nothing.
use mathlib.Core.Path.{◌≡◌, refl, sym, ap, ◌∙◌}
use mathlib.Core.Bool.{Bool, true, false, cond, ◌||◌}
use mathlib.Core.Logic.{◌⊎◌, inl, inr}
use Prim.Native.Nat.{ℕ}
use native.Mathlib.Omega.{arith}
use Rattle.fault.specs.declared.Fault.{Fault}
use Rattle.fault.specs.declared.Fault.TheVariants.{MaskTooLarge, CornerOutOfRange}
use Rattle.std.specs.Prelude.{Ok, Err}
use Rattle.cells.specs.Cells.{too_large, SizeAllowed}
use Rattle.cells.specs.Corner.{corner_out, CornerOut, CornerAllowed}
use Rattle.cells.proofs.Sizes.{or_true, size_allowed, size_large, allowed_small, large_test}
use Rattle.cells.proofs.Corners.{corner_allowed, corner_out_law, allowed_in, out_test}
use Rattle.ink.specs.Lent.{Lent}
use Rattle.laying.specs.Placed.{Placed, by_offset}
use Rattle.mask.specs.Calls.{lay_answer, lay_placed_answer}
use Rattle.mask.specs.Laws.{CanLay, FirstLayCause, either_too_large, either_short, CanLayPlaced, FirstPlacedCause, placed_too_large, corner_out_law as out-cause, placed_short}
use Rattle.mask.specs.Laws.{LaidPlacedExactlyWhen, PlacedIsByOffset}
use Rattle.mask.specs.Steps.{corners_check}
use Rattle.fault.specs.Check.{Check}
use Rattle.mask.proofs.Decided.{Decided, done_only, refused_only}
use Rattle.mask.proofs.LayCauses.{can_lay, cannot_lay, decided as lay-decided}

module _ (p : Placed) (lent : Lent) (other : ℕ) where
  abbrev Told : Type 0
  Told = Decided (CanLayPlaced p lent other) (FirstPlacedCause p lent other)

  -- ---- one of the two is so

  -- with corners within their limit, as by the offset between them
  by_offset_lem : CornerAllowed p.own.corner → CornerAllowed p.other.corner → Decided (CanLay (by_offset p) lent other) (FirstLayCause (by_offset p) lent other) → Told
  by_offset_lem c d (inl can) = inl (record { corner_allowed = c; other_corner_allowed = d; can_lay = can })
  by_offset_lem c d (inr (_, either_too_large h)) = inr (MaskTooLarge, placed_too_large h)
  by_offset_lem c d (inr (f, either_short s o h)) = inr (f, placed_short s o c d h)

  by_corners : SizeAllowed p.own.size → SizeAllowed p.other.size → Told
  by_corners s o = go (corner_out p.own.corner) (corner_out p.other.corner) refl refl
    where
      go : (a b : Bool) → corner_out p.own.corner ≡ a → corner_out p.other.corner ≡ b → Told
      go true b e f = inr (CornerOutOfRange, out-cause s o (inl (corner_out_law p.own.corner e)))
      go false true e f = inr (CornerOutOfRange, out-cause s o (inr (corner_out_law p.other.corner f)))
      go false false e f = by_offset_lem (corner_allowed p.own.corner e) (corner_allowed p.other.corner f) (lay-decided (by_offset p) lent other)

  pub decided : Told
  decided = go (too_large p.own.size) (too_large p.other.size) refl refl
    where
      go : (a b : Bool) → too_large p.own.size ≡ a → too_large p.other.size ≡ b → Told
      go true b e f = inr (MaskTooLarge, placed_too_large (inl (size_large p.own.size e)))
      go false true e f = inr (MaskTooLarge, placed_too_large (inr (size_large p.other.size f)))
      go false false e f = by_corners (size_allowed p.own.size e) (size_allowed p.other.size f)

  -- ---- and tells the answer

  pub within : CornerAllowed p.own.corner → CornerAllowed p.other.corner → lay_placed_answer p lent other ≡ lay_answer (by_offset p) lent other
  within c d = rw (allowed_in p.own.corner c, allowed_in p.other.corner d) refl

  pub can_lay_placed : CanLayPlaced p lent other → lay_placed_answer p lent other ≡ Ok tt
  can_lay_placed c = within c.corner_allowed c.other_corner_allowed ∙ can_lay (by_offset p) lent other c.can_lay

  -- either corner is out of range
  either_out : CornerOut p.own.corner ⊎ CornerOut p.other.corner → (corner_out p.own.corner || corner_out p.other.corner) ≡ true
  either_out (inl h) = rw (out_test p.own.corner h) refl
  either_out (inr h) = rw (out_test p.other.corner h) (or_true (corner_out p.own.corner))

  pub cannot_lay_placed : (f : Fault) → FirstPlacedCause p lent other f → lay_placed_answer p lent other ≡ Err f
  cannot_lay_placed f (placed_too_large (inl h)) = rw (large_test p.own.size h) refl
  cannot_lay_placed f (placed_too_large (inr h)) = rw (large_test p.other.size h, or_true (too_large p.own.size)) refl
  cannot_lay_placed f (out-cause s o h) = rw (allowed_small p.own.size s, allowed_small p.other.size o, either_out h) refl
  cannot_lay_placed f (placed_short s o c d h) = within c d ∙ cannot_lay (by_offset p) lent other f (either_short s o h)

  -- a corner out of range is 16, unless 3 comes first
  beyond : CornerOut p.own.corner ⊎ CornerOut p.other.corner
      → (lay_placed_answer p lent other ≡ Err MaskTooLarge) ⊎ (lay_placed_answer p lent other ≡ Err CornerOutOfRange)
  beyond h = go (too_large p.own.size || too_large p.other.size) refl
    where
      go : (t : Bool) → (too_large p.own.size || too_large p.other.size) ≡ t
          → (lay_placed_answer p lent other ≡ Err MaskTooLarge) ⊎ (lay_placed_answer p lent other ≡ Err CornerOutOfRange)
      go true e = inl (rw e refl)
      go false e = inr (rw (e, either_out h) refl)

-- ---- what the check before it says of the answer

same_fault : {f g : Fault} → ◌≡◌ {A = Check} (Err f) (Err g) → f ≡ g
same_fault e = cc

not_passed : {f : Fault} → ◌≡◌ {A = Check} (Err f) (Ok tt) → ⊥
not_passed e = let z : ◌≡◌ {A = ℕ} 0 1 = cc in omega arith

pub check_refuses : (p : Placed) (lent : Lent) (other : ℕ) (f : Fault) → corners_check p ≡ Err f → lay_placed_answer p lent other ≡ Err f
check_refuses p lent other f =
    go (too_large p.own.size || too_large p.other.size) (corner_out p.own.corner || corner_out p.other.corner) _
  where
    go : (a b : Bool) (laid : Check) → ◌≡◌ {A = Check} (cond a (Err MaskTooLarge) (cond b (Err CornerOutOfRange) (Ok tt))) (Err f)
        → ◌≡◌ {A = Check} (cond a (Err MaskTooLarge) (cond b (Err CornerOutOfRange) laid)) (Err f)
    go true b laid e = ap (λ (h : Fault). Err h) (same_fault e)
    go false true laid e = ap (λ (h : Fault). Err h) (same_fault e)
    go false false laid e = absurd (not_passed (sym e))

pub check_passes : (p : Placed) → corners_check p ≡ Ok tt → CornerAllowed p.own.corner × CornerAllowed p.other.corner
check_passes p = go (too_large p.own.size || too_large p.other.size) (corner_out p.own.corner) (corner_out p.other.corner) refl refl
  where
    go : (a b d : Bool) → corner_out p.own.corner ≡ b → corner_out p.other.corner ≡ d
        → ◌≡◌ {A = Check} (cond a (Err MaskTooLarge) (cond (b || d) (Err CornerOutOfRange) (Ok tt))) (Ok tt)
        → CornerAllowed p.own.corner × CornerAllowed p.other.corner
    go true b d g h e = absurd (not_passed e)
    go false true d g h e = absurd (not_passed e)
    go false false true g h e = absurd (not_passed e)
    go false false false g h e = (corner_allowed p.own.corner g, corner_allowed p.other.corner h)

pub laid_placed_exactly_when : LaidPlacedExactlyWhen
laid_placed_exactly_when = record {
  done_only = λ p lent other. done_only (can_lay_placed p lent other) (cannot_lay_placed p lent other) (decided p lent other);
  done_always = can_lay_placed;
  refused = λ p lent other. record {
    only = refused_only (can_lay_placed p lent other) (cannot_lay_placed p lent other) (decided p lent other);
    always = cannot_lay_placed p lent other;
  };
}

pub placed_is_by_offset : PlacedIsByOffset
placed_is_by_offset = record { within = within; beyond = beyond }
