-- When a mask is written, and why not (specs/Laws.antt, WrittenExactlyWhen), and how long the file is. Assumes nothing.
use mathlib.Core.Path.{◌≡◌, refl, sym, ◌∙◌}
use mathlib.Core.Bool.{Bool, true, false, ◌||◌}
use mathlib.Core.Logic.{◌⊎◌, inl, inr}
use Prim.Native.Nat.{ℕ, zero, suc, ◌<◌}
use native.Mathlib.Omega.{arith}
use lib.Dec.{ltb, eqb}
use borrow.Author.Tests.{ltb-true, ltb-false, lt-ltb, le-ltb, eqb-true, eqb-false, eq-eqb, ne_eqb}
use Rattle.fault.specs.declared.Fault.{Fault}
use Rattle.fault.specs.declared.Fault.TheVariants.{MaskTooLarge, BufferTooShort, NotPgm}
use Rattle.std.specs.Prelude.{Result, Ok, Err}
use Rattle.fault.proofs.Decided.{Decided, told, good}
use Rattle.cells.specs.declared.Size.{Size}
use Rattle.cells.specs.Cells.{cells_of, too_large}
use Rattle.cells.proofs.Sizes.{or_true, size_allowed, size_large, allowed_small, large_test, cells_fit}
use Rattle.pgm_writer.specs.Text.{HasCells}
use Rattle.pgm_writer.proofs.Texts.{decimal_short, header_length}
use Rattle.pgm.specs.Calls.{no_cells, file_length, write_check, write_call}
use Rattle.pgm.specs.Laws.{CanWrite, FirstWriteCause, no_cells_law, too_large_law, either_short, WrittenExactlyWhen, FileLengths}

-- ---- a size that has cells

above : (n : ℕ) → (n ≡ 0 → ⊥) → 0 < n
above zero h = absurd (h refl)
above (suc n) h = omega arith

pub has_cells : (size : Size) → no_cells size ≡ false → HasCells size
has_cells size = go (eqb size.width 0) refl
  where
    go : (a : Bool) → eqb size.width 0 ≡ a → (a || eqb size.height 0) ≡ false → HasCells size
    go true e f = absurd (mathlib.Core.Bool.true≢false f)
    go false e f = (above size.width (eqb-false size.width 0 e), above size.height (eqb-false size.height 0 f))

pub some_cells : (size : Size) → HasCells size → no_cells size ≡ false
some_cells size h = rw (ne_eqb size.width 0 (λ z. omega arith), ne_eqb size.height 0 (λ z. omega arith)) refl

no_cell : (size : Size) → no_cells size ≡ true → (size.width ≡ 0) ⊎ (size.height ≡ 0)
no_cell size = go (eqb size.width 0) refl
  where
    go : (a : Bool) → eqb size.width 0 ≡ a → (a || eqb size.height 0) ≡ true → (size.width ≡ 0) ⊎ (size.height ≡ 0)
    go true e f = inl (eqb-true size.width 0 e)
    go false e f = inr (eqb-true size.height 0 f)

none : (size : Size) → (size.width ≡ 0) ⊎ (size.height ≡ 0) → no_cells size ≡ true
none size (inl e) = rw (eq-eqb size.width 0 e) refl
none size (inr e) = rw (eq-eqb size.height 0 e) (or_true (eqb size.width 0))

-- ---- the check

either : (a b c d : ℕ) → (a < b) ⊎ (c < d) → (ltb a b || ltb c d) ≡ true
either a b c d (inl h) = rw (lt-ltb a b h) refl
either a b c d (inr h) = rw (lt-ltb c d h) (or_true (ltb a b))

module _ (size : Size) (mask file : ℕ) where
  pub can_write : CanWrite size mask file → write_check size mask file ≡ Ok tt
  can_write c =
      rw (
        some_cells size c.has_cells,
        allowed_small size c.size_allowed,
        le-ltb mask (cells_of size) c.cells,
        le-ltb file (file_length size) c.room,
      ) refl

  pub cannot_write : (f : Fault) → FirstWriteCause size mask file f → write_check size mask file ≡ Err f
  cannot_write f (no_cells_law e) = rw (none size e) refl
  cannot_write f (too_large_law h l) = rw (some_cells size h, large_test size l) refl
  cannot_write f (either_short h s e) =
      rw (some_cells size h, allowed_small size s, either mask (cells_of size) file (file_length size) e) refl

  -- one of the two is so
  pub write_decided : Decided (CanWrite size mask file) (FirstWriteCause size mask file)
  write_decided = go (no_cells size) (too_large size) (ltb mask (cells_of size)) (ltb file (file_length size)) refl refl refl refl
    where
      go : (a b c d : Bool) → no_cells size ≡ a → too_large size ≡ b → ltb mask (cells_of size) ≡ c → ltb file (file_length size) ≡ d
          → Decided (CanWrite size mask file) (FirstWriteCause size mask file)
      go true b c d e f g h = inr (NotPgm, no_cells_law (no_cell size e))
      go false true c d e f g h = inr (MaskTooLarge, too_large_law (has_cells size e) (size_large size f))
      go false false true d e f g h =
          inr (BufferTooShort, either_short (has_cells size e) (size_allowed size f) (inl (ltb-true mask (cells_of size) g)))
      go false false false true e f g h =
          inr (BufferTooShort, either_short (has_cells size e) (size_allowed size f) (inr (ltb-true file (file_length size) h)))
      go false false false false e f g h = inl (record {
        has_cells = has_cells size e;
        size_allowed = size_allowed size f;
        cells = ltb-false mask (cells_of size) g;
        room = ltb-false file (file_length size) h;
      })

-- where the check passes
pub write_passes : (size : Size) (mask file : ℕ) → write_check size mask file ≡ Ok tt → CanWrite size mask file
write_passes size mask file e = go (write_decided size mask file)
  where
    go : Decided (CanWrite size mask file) (FirstWriteCause size mask file) → CanWrite size mask file
    go (inl c) = c
    go (inr (f, c)) = let d = cannot_write size mask file f c in let z : ◌≡◌ {A = ℕ} 0 1 = cc in absurd (omega arith)

-- ---- the answer

pub done : (size : Size) (mask file : ℕ) → CanWrite size mask file → write_call size mask file ≡ Ok (file_length size)
done size mask file c = rw (can_write size mask file c) refl

done_only : (size : Size) (mask file n : ℕ) → write_call size mask file ≡ Ok n → CanWrite size mask file × (n ≡ file_length size)
done_only size mask file n e =
    let can = good (file_length size) (can_write size mask file) (cannot_write size mask file) (write_decided size mask file)
    (λ f q. let z : ◌≡◌ {A = Result ℕ Fault} (Ok n) (Err f) = sym e ∙ q in let one : ◌≡◌ {A = ℕ} 0 1 = cc in omega arith) in
    let d : ◌≡◌ {A = Result ℕ Fault} (Ok n) (Ok (file_length size)) = sym e ∙ done size mask file can in
    (can, cc)

pub written_exactly_when : WrittenExactlyWhen
written_exactly_when = record {
  done_only = done_only;
  done_always = done;
  refused = λ size mask file. told (file_length size) (can_write size mask file) (cannot_write size mask file) (write_decided size mask file);
}

-- ---- the file's length

pub file_lengths : FileLengths
file_lengths = record {
  is = λ size. let n = header_length size in omega arith;
  most = λ size s.
      let n = header_length size in
      omega (arith, decimal_short size.width, decimal_short size.height, cells_fit size (allowed_small size s));
}
