-- The starts that are kept from row to row are row times width, and fit 64 bits. Assumes nothing.
use mathlib.Core.Path.{◌≡◌, refl, sym, ap, ◌∙◌}
use Prim.Native.Nat.{ℕ, zero, suc, ◌+◌, ◌*◌, ◌<◌, ◌≤◌}
use native.Mathlib.Nat.{mul-le-mul}
use native.Mathlib.Numerals.{add-one}
use native.Mathlib.Omega.{arith}
use lib.IntN.{ℤ, pos, negsuc, neg_ℤ, nat_abs, ◌+ℤ◌, ◌*ℤ◌, suc_ℤ-+ℤ, suc_ℤ-*ℤ, +ℤ_idl, +ℤ_idr, +ℤ_comm}
use mir.Syntax.{w32, w64}
use mir.Val.{SFits, to_z, of_z}
use mir.ValLaws.{to_z-of_z, to_z_pos}
use Rattle.laying.specs.Laying.{Laying}
use Rattle.laying.specs.Lines.{start_of, row_met}
use Rattle.laying.specs.Starts.{running_start, RowStarts, StartsKept, MetRowStart}
use Rattle.laying.proofs.Offsets.{turned_small, sum_abs}
use Rattle.laying.proofs.Rows.{from_start}

-- ---- the law

-- begun y rows further, the start is that of the row y rows further
start_at : (y : ℤ) (width row : ℕ) → running_start (y *ℤ pos width) width row ≡ (pos row +ℤ y) *ℤ pos width
unfolding running_start
start_at y width zero = ap (λ (z : ℤ). z *ℤ pos width) (sym (+ℤ_idl y))
start_at y width (suc row) =
    ap (λ (z : ℤ). z +ℤ pos width) (start_at y width row) ∙ sym (suc_ℤ-*ℤ (pos row +ℤ y) (pos width))
    ∙ ap (λ (z : ℤ). z *ℤ pos width) (sym (suc_ℤ-+ℤ (pos row) y))

pub starts_kept : StartsKept
starts_kept l row =
    let w = l.size.width in
    let nought : pos 0 ≡ pos 0 *ℤ pos w = ap pos (omega arith) in
    record {
      own_is = λ _. ap (λ (z : ℤ). running_start z w row) nought ∙ start_at (pos 0) w row ∙ ap (λ (z : ℤ). z *ℤ pos w) (+ℤ_idr (pos row));
      other_is = λ met e _. start_at l.offset.y l.other_size.width row ∙ ap (λ (z : ℤ). z *ℤ pos l.other_size.width) e;
    }

-- ---- the starts that a loop keeps: its own mask's, and the other's, which begins at first
pub record Kept (width other_width : ℕ) (first : ℤ) (row own : ℕ) (other : ℤ) : Type 0 where
  pub own_kept : pos own ≡ running_start (pos 0) width row
  pub other_kept : other ≡ running_start first other_width row

module _ {width other_width : ℕ} {first : ℤ} where
  pub kept_start : Kept width other_width first 0 0 first
  unfolding running_start
  kept_start = record { own_kept = refl; other_kept = refl }

  pub kept_more : {row own : ℕ} {other next : ℤ} → Kept width other_width first row own other → next ≡ other +ℤ pos other_width
      → Kept width other_width first (row + 1) (own + width) next
  unfolding running_start
  kept_more {row} k e =
      rw (add-one row)
      (record { own_kept = ap (λ (z : ℤ). z +ℤ pos width) k.own_kept; other_kept = e ∙ ap (λ (z : ℤ). z +ℤ pos other_width) k.other_kept })

-- ---- what fits 64 bits: an offset has 32, and rows and widths are at most 4096

neg_abs : (n : ℕ) → nat_abs (neg_ℤ (pos n)) ≤ n
neg_abs zero = omega arith
neg_abs (suc n) = omega arith

product_abs : (z : ℤ) (width : ℕ) → nat_abs (z *ℤ pos width) ≤ nat_abs z * width
product_abs (pos n) width = omega arith
product_abs (negsuc n) width = neg_abs (suc n * width)

abs_fits : (z : ℤ) → nat_abs z < 9223372036854775808 → SFits w64 z
abs_fits (pos n) h = record { sfits = h }
abs_fits (negsuc n) h = record { sfits = omega arith }

-- how far from 0 a row may start
pub record Near (start : ℤ) : Type 0 where
  pub near : nat_abs start ≤ 2147487744 * 4096

start_near : (y : ℤ) (width row : ℕ) → SFits w32 y → width ≤ 4096 → row ≤ 4096 → Near ((pos row +ℤ y) *ℤ pos width)
start_near y width row s h g =
    let a = turned_small y s in
    let b = sum_abs (pos row) y in
    let c : nat_abs (pos row +ℤ y) ≤ 2147487744 = omega arith in
    let m : nat_abs (pos row +ℤ y) * width ≤ 2147487744 * 4096 = mul-le-mul c h in
    let d = product_abs (pos row +ℤ y) width in
    record { near = omega arith }

pub first_fits : (y : ℤ) (width : ℕ) → SFits w32 y → width ≤ 4096 → SFits w64 (y *ℤ pos width)
first_fits y width s h =
    let n = (start_near y width 0 s h (omega arith)).near in
    let b = rw (+ℤ_idl y) at n in
    abs_fits (y *ℤ pos width) (omega arith)

module _ {start : ℤ} {width : ℕ} (near : Near start) (wide : width ≤ 4096) where
  pub sum_fits : SFits w64 (start +ℤ to_z w64 width)
  sum_fits =
      let b = sum_abs (pos width) start in
      let n = near.near in
      rw (to_z_pos w64 width (omega arith), +ℤ_comm start (pos width)) (abs_fits (pos width +ℤ start) (omega arith))

  pub sum_is : to_z w64 (of_z w64 (start +ℤ to_z w64 width)) ≡ start +ℤ pos width
  sum_is = to_z-of_z w64 (start +ℤ to_z w64 width) sum_fits ∙ ap (λ (z : ℤ). start +ℤ z) (to_z_pos w64 width (omega arith))

-- ---- at a row of a laying-on, whose other mask's start began where it should

module _ (l : Laying) {first : ℤ} (begun : first ≡ l.offset.y *ℤ pos l.other_size.width) {row own : ℕ} {other : ℤ}
    (k : Kept l.size.width l.other_size.width first row own other) where
  pub row_starts : RowStarts l row (pos own) other
  row_starts = rw (k.own_kept, k.other_kept, begun) (starts_kept l row)

  -- what laying a row asks
  pub met_start : MetRowStart (start_of l.offset.y) l.other_size row other
  met_start past low = row_starts.other_is (row_met (start_of l.offset.y) row) (from_start l.offset.y row past) low

  pub kept_near : SFits w32 l.offset.y → l.other_size.width ≤ 4096 → row ≤ 4096 → Near other
  kept_near fits wide low =
      rw (k.other_kept, begun, start_at l.offset.y l.other_size.width row) (start_near l.offset.y l.other_size.width row fits wide low)
