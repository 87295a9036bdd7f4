-- When a file is read, and why not (specs/Laws.antt, ReadExactlyWhen). Assumes nothing.
use mathlib.Core.Path.{◌≡◌, refl, sym, ap, ◌∙◌, subst}
use mathlib.Core.Bool.{Bool, true, false, cond, not}
use mathlib.Core.List.{List, ◌++◌}
use mathlib.Core.Logic.{inl, inr}
use Prim.Native.Nat.{ℕ}
use native.Mathlib.Omega.{arith}
use lib.Dec.{eqb}
use lib.ListN.{length, drop}
use borrow.Author.Tests.{eqb-true, eqb-false, eq-eqb, ne_eqb}
use Rattle.fault.specs.declared.Fault.{Fault}
use Rattle.fault.specs.declared.Fault.TheVariants.{MaskTooLarge, BufferTooShort, NotPgm, WrongDepth, WrongRaster}
use Rattle.fault.specs.Check.{Check}
use Rattle.std.specs.Prelude.{Result, Ok, Err}
use Rattle.fault.proofs.Decided.{Decided}
use Rattle.cells.specs.declared.Size.{Size}
use Rattle.cells.specs.declared.MaskRecord.{MaskRecord}
use Rattle.cells.specs.Corner.{sheet_origin}
use Rattle.cells.specs.Cells.{cells_of, too_large, SizeAllowed}
use Rattle.cells.proofs.Sizes.{size_allowed, size_large, allowed_small, large_test}
use Rattle.ink.specs.Lent.{Lent, lent_short, LentEnough}
use Rattle.ink.proofs.Lent.{lent_enough, lent_short_law as short_told, enough_test, short_test}
use Rattle.pgm_reader.specs.Reading.{Read, ok, bad, Head, read_header}
use Rattle.pgm_reader.specs.Laws.{HeaderIs}
use Rattle.pgm_reader.proofs.Laws.{header_exactly_when}
use Rattle.pgm.specs.Calls.{read_check, record_read, read_call, raster_in, mask_after_reading}
use Rattle.pgm.specs.Laws.{Taken, FirstReadCause, no_header, wrong_depth, too_large_law, wrong_raster, lent_short_law, ReadExactlyWhen}

-- ---- a file that is taken

module _ {file : List ℕ} {size : Size} {raster : List ℕ} (t : Taken file size raster) where
  is : read_header file ≡ ok (record { size = size; depth = 255 }) raster
  is = header_exactly_when.always file size 255 raster t.header

  pub done : (lent : Lent) → LentEnough size lent → read_call file lent ≡ Ok (record_read size)
  done lent h = rw (is, allowed_small size t.size_allowed, eq-eqb (length raster) (cells_of size) t.exactly, enough_test size lent h) refl

  pub cells_read : (mask : List ℕ) → mask_after_reading (Ok (record_read size)) file mask ≡ raster ++ drop (cells_of size) mask
  cells_read mask = ap (λ (r : Read Head). raster_in r ++ drop (cells_of size) mask) is

-- ---- and one that is refused

no_head : (file : List ℕ) → ((size : Size) (depth : ℕ) (raster : List ℕ) → HeaderIs file size depth raster → ⊥) → read_header file ≡ bad
no_head file n = go (read_header file) refl
  where
    go : (r : Read Head) → read_header file ≡ r → r ≡ bad
    go bad q = refl
    go (ok h rest) q = absurd (n h.size h.depth rest (header_exactly_when.only file h rest q))

always : (file : List ℕ) (lent : Lent) (f : Fault) → FirstReadCause file lent f → read_call file lent ≡ Err f
always file lent f (no_header n) = rw (no_head file n) refl
always file lent f (wrong_depth size depth raster h n) =
    rw (header_exactly_when.always file size depth raster h, ne_eqb depth 255 n) refl
always file lent f (too_large_law size raster h l) = rw (header_exactly_when.always file size 255 raster h, large_test size l) refl
always file lent f (wrong_raster size raster h s n) =
    rw (header_exactly_when.always file size 255 raster h, allowed_small size s, ne_eqb (length raster) (cells_of size) n) refl
always file lent f (lent_short_law size raster t l) =
    rw (is t, allowed_small size t.size_allowed, eq-eqb (length raster) (cells_of size) t.exactly, short_test size lent l) refl

-- ---- one of the two is so

pub record CanRead (file : List ℕ) (lent : Lent) : Type 0 where
  pub size : Size
  pub raster : List ℕ
  pub taken : Taken file size raster
  pub room : LentEnough size lent

module _ (file : List ℕ) (lent : Lent) where
  abbrev Told : Type 0
  Told = Decided (CanRead file lent) (FirstReadCause file lent)

  -- behind a header of depth 255
  raster_decided : (size : Size) (raster : List ℕ) → HeaderIs file size 255 raster → Told
  raster_decided size raster h = go (too_large size) (eqb (length raster) (cells_of size)) (lent_short size lent) refl refl refl
    where
      taken : too_large size ≡ false → eqb (length raster) (cells_of size) ≡ true → Taken file size raster
      taken e f = record { header = h; size_allowed = size_allowed size e; exactly = eqb-true (length raster) (cells_of size) f }

      go : (a b c : Bool) → too_large size ≡ a → eqb (length raster) (cells_of size) ≡ b → lent_short size lent ≡ c → Told
      go true b c e f g = inr (MaskTooLarge, too_large_law size raster h (size_large size e))
      go false false c e f g = inr (WrongRaster, wrong_raster size raster h (size_allowed size e) (eqb-false (length raster) (cells_of size) f))
      go false true true e f g = inr (BufferTooShort, lent_short_law size raster (taken e f) (short_told size lent g))
      go false true false e f g = inl (record { size = size; raster = raster; taken = taken e f; room = lent_enough size lent g })

  decided : Told
  decided = go (read_header file) refl
    where
      deep : (h : Head) (raster : List ℕ) → HeaderIs file h.size h.depth raster → (a : Bool) → eqb h.depth 255 ≡ a → Told
      deep h raster head true e =
          raster_decided h.size raster (subst (λ (n : ℕ). HeaderIs file h.size n raster) (eqb-true h.depth 255 e) head)
      deep h raster head false e = inr (WrongDepth, wrong_depth h.size h.depth raster head (eqb-false h.depth 255 e))

      none : read_header file ≡ bad → (size : Size) (depth : ℕ) (raster : List ℕ) → HeaderIs file size depth raster → ⊥
      none q size depth raster h =
          let both = sym q ∙ header_exactly_when.always file size depth raster h in
          let z : ◌≡◌ {A = ℕ} 0 1 = cc in
          omega arith

      go : (r : Read Head) → read_header file ≡ r → Told
      go bad q = inr (NotPgm, no_header (none q))
      go (ok h raster) q = deep h raster (header_exactly_when.only file h raster q) (eqb h.depth 255) refl

-- ---- where the check behind a header passes, the raster is the mask's cells, and enough is lent

pub record RasterFits (size : Size) (raster : ℕ) (lent : Lent) : Type 0 where
  pub size_allowed : SizeAllowed size
  pub exactly : raster ≡ cells_of size
  pub room : LentEnough size lent

pub raster_fits : (h : Head) (raster : ℕ) (lent : Lent) → read_check h raster lent ≡ Ok tt → RasterFits h.size raster lent
raster_fits h raster lent = go (eqb h.depth 255) (too_large h.size) (eqb raster (cells_of h.size)) (lent_short h.size lent) refl refl refl
  where
    go : (a b c d : Bool) → too_large h.size ≡ b → eqb raster (cells_of h.size) ≡ c → lent_short h.size lent ≡ d
        → ◌≡◌ {A = Check} (cond (not a) (Err WrongDepth) (cond b (Err MaskTooLarge) (cond (not c) (Err WrongRaster)
        (cond d (Err BufferTooShort) (Ok tt))))) (Ok tt)
        → RasterFits h.size raster lent
    go false b c d e f g p = let z : ◌≡◌ {A = ℕ} 0 1 = cc in absurd (omega arith)
    go true true c d e f g p = let z : ◌≡◌ {A = ℕ} 0 1 = cc in absurd (omega arith)
    go true false false d e f g p = let z : ◌≡◌ {A = ℕ} 0 1 = cc in absurd (omega arith)
    go true false true true e f g p = let z : ◌≡◌ {A = ℕ} 0 1 = cc in absurd (omega arith)
    go true false true false e f g p = record {
      size_allowed = size_allowed h.size e;
      exactly = eqb-true raster (cells_of h.size) f;
      room = lent_enough h.size lent g;
    }

-- ---- the answer

not_both : (r : MaskRecord) (f : Fault) → ◌≡◌ {A = Result MaskRecord Fault} (Ok r) (Err f) → ⊥
not_both r f e = let z : ◌≡◌ {A = ℕ} 0 1 = cc in omega arith

done_only : (file : List ℕ) (r : MaskRecord) (lent : Lent) → read_call file lent ≡ Ok r
    → (raster : List ℕ) × (Taken file r.size raster × (LentEnough r.size lent × (r.corner ≡ sheet_origin)))
done_only file r lent e = go (decided file lent)
  where
    Shown : MaskRecord → List ℕ → Type 0
    Shown x raster = Taken file x.size raster × (LentEnough x.size lent × (x.corner ≡ sheet_origin))

    go : Decided (CanRead file lent) (FirstReadCause file lent) → (raster : List ℕ) × Shown r raster
    go (inl c) =
        let d = done c.taken lent c.room in
        let z : ◌≡◌ {A = Result MaskRecord Fault} (Ok (record_read c.size)) (Ok r) = sym d ∙ e in
        let s : record_read c.size ≡ r = cc in
        (c.raster, subst (λ (x : MaskRecord). Shown x c.raster) s (c.taken, (c.room, refl)))
    go (inr (f, c)) = absurd (not_both r f (sym e ∙ always file lent f c))

only : (file : List ℕ) (lent : Lent) (f : Fault) → read_call file lent ≡ Err f → FirstReadCause file lent f
only file lent f e = go (decided file lent)
  where
    go : Decided (CanRead file lent) (FirstReadCause file lent) → FirstReadCause file lent f
    go (inl c) = absurd (not_both (record_read c.size) f (sym (done c.taken lent c.room) ∙ e))
    go (inr (g, c)) =
        let z : ◌≡◌ {A = Result MaskRecord Fault} (Err g) (Err f) = sym (always file lent g c) ∙ e in
        let s : g ≡ f = cc in
        subst (FirstReadCause file lent) s c

pub read_exactly_when : ReadExactlyWhen
read_exactly_when = record {
  done_only = done_only;
  done_always = λ file size raster lent t. done t lent;
  cells = λ file size raster mask t. cells_read t mask;
  refused = λ file lent. record { only = only file lent; always = always file lent };
}
