-- When a file is read on lent slices, and why not (specs/Laws.antt, ReadLentExactlyWhen). Assumes nothing.
use Rattle.std.specs.Prelude.{Result, Ok, Err}
use mathlib.Core.Path.{◌≡◌, refl, ◌∙◌, subst}
use mathlib.Core.Bool.{Bool, true, false, true≢false, ◌||◌}
use mathlib.Core.Logic.{◌⊎◌, inl, inr}
use mathlib.Core.List.{List}
use Prim.Native.Nat.{ℕ, ◌≤◌, ◌<◌}
use native.Mathlib.Omega.{arith}
use lib.Dec.{ltb}
use borrow.Author.Tests.{ltb-true, ltb-false, lt-ltb, le-ltb}
use Rattle.fault.specs.declared.Fault.{Fault}
use Rattle.fault.specs.declared.Fault.TheVariants.{BufferTooShort}
use Rattle.cells.specs.declared.Size.{Size}
use Rattle.cells.specs.declared.MaskRecord.{MaskRecord}
use Rattle.cells.specs.Corner.{sheet_origin}
use Rattle.cells.proofs.Sizes.{or_true}
use Rattle.ink.specs.Lent.{Lent, LentEnough}
use Rattle.pgm.specs.Calls.{record_read, read_call}
use Rattle.pgm.specs.Laws.{Taken}
use Rattle.pgm.proofs.Reading.{read_exactly_when}
use Rattle.pgm_exports.specs.Calls.{record_short, read_lent}
use Rattle.pgm_exports.specs.Laws.{FirstLentCause, of_file, record_short_law, ReadLentExactlyWhen}

-- a refusal by the file stays, whatever is lent for the record
still_refused : (t : Bool) (f : Fault) → record_short t (Err f) ≡ Err f
still_refused true f = refl
still_refused false f = refl

-- too few numbers for either
pub short_true : (size corner : ℕ) → (size < 2) ⊎ (corner < 2) → (ltb size 2 || ltb corner 2) ≡ true
short_true size corner (inl h) = rw (lt-ltb size 2 h) refl
short_true size corner (inr h) = rw (lt-ltb corner 2 h) (or_true (ltb size 2))

short_told : (size corner : ℕ) → (ltb size 2 || ltb corner 2) ≡ true → (size < 2) ⊎ (corner < 2)
short_told size corner = go (ltb size 2) refl
  where
    go : (a : Bool) → ltb size 2 ≡ a → (a || ltb corner 2) ≡ true → (size < 2) ⊎ (corner < 2)
    go true e h = inl (ltb-true size 2 e)
    go false e h = inr (ltb-true corner 2 h)

enough_told : (size corner : ℕ) → (ltb size 2 || ltb corner 2) ≡ false → (2 ≤ size) × (2 ≤ corner)
enough_told size corner = go (ltb size 2) refl
  where
    go : (a : Bool) → ltb size 2 ≡ a → (a || ltb corner 2) ≡ false → (2 ≤ size) × (2 ≤ corner)
    go true e h = absurd (true≢false h)
    go false e h = (ltb-false size 2 e, ltb-false corner 2 h)

module _ (file : List ℕ) (lent : Lent) (size corner : ℕ) where
  abbrev short : Bool
  short = ltb size 2 || ltb corner 2

  done_only : (r : MaskRecord) → read_lent file lent size corner ≡ Ok r
      → (raster : List ℕ) × (Taken file r.size raster × (LentEnough r.size lent × ((2 ≤ size) × ((2 ≤ corner) × (r.corner ≡ sheet_origin)))))
  done_only r = go short (read_call file lent) refl refl
    where
      go : (t : Bool) (a : Result MaskRecord Fault) → short ≡ t → read_call file lent ≡ a → record_short t a ≡ Ok r
          → (raster : List ℕ) × (Taken file r.size raster × (LentEnough r.size lent × ((2 ≤ size) × ((2 ≤ corner) × (r.corner ≡ sheet_origin)))))
      go true (Ok z) l q e = let y : ◌≡◌ {A = ℕ} 0 1 = cc in absurd (omega arith)
      go true (Err f) l q e = let y : ◌≡◌ {A = ℕ} 0 1 = cc in absurd (omega arith)
      go false a l q e =
          let d = read_exactly_when.done_only file r lent (q ∙ e) in
          let n = enough_told size corner l in
          (d.0, (d.1.0, (d.1.1.0, (n.0, (n.1, d.1.1.1)))))

  done_always : (s : Size) (raster : List ℕ) → Taken file s raster → LentEnough s lent → 2 ≤ size → 2 ≤ corner → read_lent file lent size corner ≡ Ok (record_read s)
  done_always s raster t h l m = rw (le-ltb size 2 l, le-ltb corner 2 m) (read_exactly_when.done_always file s raster lent t h)

  always : (f : Fault) → FirstLentCause file lent size corner f → read_lent file lent size corner ≡ Err f
  always f (of_file c) = rw ((read_exactly_when.refused file lent).always f c) (still_refused short f)
  always f (record_short_law s raster t h l) = rw (short_true size corner l, read_exactly_when.done_always file s raster lent t h) refl

  only : (f : Fault) → read_lent file lent size corner ≡ Err f → FirstLentCause file lent size corner f
  only f = go short (read_call file lent) refl refl
    where
      by_file : (g : Fault) → read_call file lent ≡ Err g → g ≡ f → FirstLentCause file lent size corner f
      by_file g q e = subst (FirstLentCause file lent size corner) e (of_file ((read_exactly_when.refused file lent).only g q))

      go : (t : Bool) (a : Result MaskRecord Fault) → short ≡ t → read_call file lent ≡ a → record_short t a ≡ Err f
          → FirstLentCause file lent size corner f
      go true (Ok r) l q e =
          let d = read_exactly_when.done_only file r lent q in
          let same : BufferTooShort ≡ f = cc in
          subst (FirstLentCause file lent size corner) same (record_short_law r.size d.0 d.1.0 d.1.1.0 (short_told size corner l))
      go true (Err g) l q e = by_file g q cc
      go false (Ok r) l q e = let y : ◌≡◌ {A = ℕ} 0 1 = cc in absurd (omega arith)
      go false (Err g) l q e = by_file g q cc

pub read_lent_exactly_when : ReadLentExactlyWhen
read_lent_exactly_when = record {
  done_only = done_only;
  done_always = done_always;
  refused = λ file lent size corner. record { only = only file lent size corner; always = always file lent size corner };
}
