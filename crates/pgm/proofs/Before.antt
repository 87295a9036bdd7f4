-- Where the ink has numbers for 4,096 rows, a file is read as before (specs/Before.antt). Assumes nothing.
use mathlib.Core.Path.{◌≡◌, refl, ap}
use mathlib.Core.Bool.{Bool, true, false, cond, not}
use Prim.Native.Nat.{ℕ, ◌≤◌}
use native.Mathlib.Omega.{arith}
use lib.Dec.{ltb, eqb}
use lib.ListN.{length}
use Rattle.fault.specs.declared.Fault.TheVariants.{MaskTooLarge, BufferTooShort, WrongDepth, WrongRaster}
use Rattle.fault.specs.Check.{Check, answer_unless}
use Rattle.std.specs.Prelude.{Ok, Err}
use Rattle.cells.specs.Cells.{cells_of, too_large}
use Rattle.cells.proofs.Sizes.{size_allowed}
use Rattle.ink.specs.Lent.{Lent, lent_short}
use Rattle.ink.proofs.Lent.{short_by_mask}
use Rattle.pgm_reader.specs.Reading.{Read, ok, bad, Head, read_header}
use Rattle.pgm.specs.Calls.{read_check, record_read, head_call}
use Rattle.pgm.specs.Before.{read_check_before, head_call_before, ReadAsBefore}

-- a check behind a header, by whether its size is too large and whether too little is lent
abbrev checked : Head → ℕ → Bool → Bool → Check
checked h raster large short =
    cond (not (eqb h.depth 255)) (Err WrongDepth)
    (cond large (Err MaskTooLarge)
    (cond (not (eqb raster (cells_of h.size))) (Err WrongRaster) (cond short (Err BufferTooShort) (Ok tt))))

module _ (lent : Lent) (long : 8192 ≤ lent.ink) where
  same_check : (h : Head) (raster : ℕ) → read_check h raster lent ≡ read_check_before h raster lent.mask
  same_check h raster = go (too_large h.size) refl
    where
      go : (t : Bool) → too_large h.size ≡ t → checked h raster t (lent_short h.size lent) ≡ checked h raster t (ltb lent.mask (cells_of h.size))
      go true e = refl
      go false e =
          let s = size_allowed h.size e in
          let low = s.1 in
          ap (checked h raster false) (short_by_mask h.size lent (omega arith))

  same_head : (r : Read Head) → head_call r lent ≡ head_call_before r lent.mask
  same_head bad = refl
  same_head (ok h raster) = ap (λ (c : Check). answer_unless c (record_read h.size)) (same_check h (length raster))

pub read_as_before : ReadAsBefore
read_as_before file lent long = same_head lent long (read_header file)
