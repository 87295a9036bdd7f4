-- What holds of a cell with the bytes of two runs, of a mask with its ink, and of both masks; and that a drawing and a laying-on
-- keep it. Assumes nothing.
use mathlib.Core.Path.{◌≡◌, refl, sym, ap, ap₂, ◌∙◌, subst₂}
use mathlib.Core.Bool.{Bool, true, false, cond, ◌&&◌}
use mathlib.Core.List.{List, ◌++◌}
use Prim.Native.Nat.{ℕ, ◌≤◌, ◌<◌}
use native.Mathlib.Nat.{not-suc-le-zero}
use native.Mathlib.Omega.{arith}
use lib.Dec.{ltb}
use lib.IntN.{ℤ, pos, negsuc, ◌+ℤ◌}
use lib.ListN.{length, get_or, drop}
use borrow.Author.Tests.{ltb-true}
use Rattle.fraction.specs.Fraction.{◌≤ᶠ◌, natᶠ, ◌*ᶠ◌, Near}
use Rattle.fraction.proofs.Linear.{lit}
use Rattle.fraction.proofs.Order.{refl≤}
use Rattle.word_list.specs.Words.{groups_of}
use Rattle.winding.proofs.Belief.{drawn_share_at_most_one, drawn_share_nonneg}
use Rattle.cells.specs.declared.Size.{Size}
use Rattle.cells.specs.declared.Corner.{Corner}
use Rattle.cells.specs.Cells.{cells_of, byte_at}
use Rattle.cells.proofs.Places.{front_byte, whole_length}
use Rattle.ink.specs.Ink.{Scanned}
use Rattle.ink.specs.Lent.{Lent, LentEnough}
use Rattle.ink.proofs.Laws.{numbers_of_rows}
use Rattle.coverage.specs.Drawing.{drawing_row, drawing_of}
use Rattle.coverage.proofs.Places.{drawing_length, drawing_byte}
use Rattle.laying.specs.declared.Offset.{Offset}
use Rattle.laying.specs.Laying.{Laying, laying, laid_byte, met_at, laid_cell, laying_of}
use Rattle.laying.proofs.Laid.{laying_length, laying_byte}
use Rattle.fault.specs.Check.{Check}
use Rattle.std.specs.Prelude.{Ok, Err}
use Rattle.mask.specs.Calls.{Drawing, draw_answer, mask_after_drawing, mask_after_laying}
use Rattle.mask.proofs.Causes.{done_exactly_when}
use Rattle.bound.proofs.Close.{drawn_bytes_are_close}
use Rattle.reckoner.specs.Reckoner.{Cell, Held, Place, running, next, Two, of, put, nothing_held, at_first, drawn_held, both, alone, meets, laid_held}
use Rattle.reckoner.specs.Claim.{Buffer, Buffers, lent_of, buffer_left, drawn_on, laid_on}
use Rattle.reckoner.proofs.LayStep.{lay_near, lay_none, lay_byte, share_nonneg, share_most}
use Rattle.reckoner.proofs.Small.{drawn_small}

pub record CellHeld (a : Cell) (x y : ℕ) : Type 0 where
  pub nonneg : natᶠ 0 ≤ᶠ a.share
  pub most : a.share ≤ᶠ natᶠ 1
  pub byte : x ≤ 255
  pub close : Near (natᶠ x) (natᶠ 255 *ᶠ a.share) a.difference
  pub same : x ≡ y

pub record MaskHeld (h : Held) (l k : Buffer) : Type 0 where
  pub room : cells_of h.size ≤ length l.mask
  pub room_too : cells_of h.size ≤ length k.mask
  pub cells : (column row : ℕ) → column < h.size.width → row < h.size.height
      → CellHeld (h.cell column row) (byte_at h.size l.mask column row) (byte_at h.size k.mask column row)
  pub scanned : Scanned h.size l.mask l.ink
  pub scanned_too : Scanned h.size k.mask k.ink

abbrev pub BothHeld : Two Held → Buffers → Buffers → Type 0
BothHeld held b d = (p : Place) → MaskHeld (of p held) (of p b) (of p d)

pub put_held : (p : Place) {held : Two Held} {b d : Buffers} {h : Held} {l k : Buffer} → BothHeld held b d → MaskHeld h l k
    → BothHeld (put p h held) (put p l b) (put p k d)
put_held running i o running = o
put_held running i o next = i next
put_held next i o running = i running
put_held next i o next = o

-- what a refused call leaves
abbrev same : Buffer → Buffer
same b = record { mask = b.mask; ink = b.ink }

pub stay_held : (p : Place) {held : Two Held} {b d : Buffers} → BothHeld held b d → BothHeld held (put p (same (of p b)) b) (put p (same (of p d)) d)
stay_held p {held} {b} {d} i = go p
  where
    still : (p : Place) → MaskHeld (of p held) (same (of p b)) (same (of p d))
    still p = record { room = (i p).room; room_too = (i p).room_too; cells = (i p).cells; scanned = (i p).scanned; scanned_too = (i p).scanned_too }

    go : (p : Place) → BothHeld held (put p (same (of p b)) b) (put p (same (of p d)) d)
    go running running = still running
    go running next = i next
    go next running = i running
    go next next = still next

none_held : (l k : Buffer) → MaskHeld nothing_held l k
none_held l k = record {
  room = omega arith;
  room_too = omega arith;
  cells = λ column row c r. absurd (not-suc-le-zero c);
  scanned = λ row r. absurd (not-suc-le-zero r);
  scanned_too = λ row r. absurd (not-suc-le-zero r);
}

pub held_first : (b d : Buffers) → BothHeld at_first b d
held_first b d running = none_held b.at_running d.at_running
held_first b d next = none_held b.at_next d.at_next

-- ---- a call that writes a mask's cells keeps what is lent for the mask and its ink as long as it was

written_lengths : (size : Size) (cells : List ℕ) (b : Buffer) → length cells ≡ cells_of size → LentEnough size (lent_of b)
    → lent_of (buffer_left (Ok tt) size (cells ++ drop (cells_of size) b.mask) b) ≡ lent_of b
written_lengths size cells b e enough =
    let after = cells ++ drop (cells_of size) b.mask in
    ap₂ (λ (m i : ℕ). lengths m i) (whole_length size cells b.mask e enough.cells) (numbers_of_rows.kept size after b.ink enough.ink)
  where
    lengths : ℕ → ℕ → Lent
    lengths m i = record { mask = m; ink = i }

long_mask : (one other : Buffer) → lent_of one ≡ lent_of other → length one.mask ≡ length other.mask
long_mask one other e = ap (λ (l : Lent). l.mask) e

-- ---- a drawing

module _ (d : Drawing) where
  abbrev cells : List ℕ
  cells = drawing_of d.size (groups_of d.words)

  enough : (b : Buffer) → draw_answer d (lent_of b) ≡ Ok tt → LentEnough d.size (lent_of b)
  enough b e = (done_exactly_when.only d (lent_of b) e).enough

  pub draw_lengths : (o : Check) (b : Buffer) → draw_answer d (lent_of b) ≡ o → lent_of (drawn_on o d b) ≡ lent_of b
  draw_lengths (Err f) b e = refl
  draw_lengths (Ok _) b e = written_lengths d.size cells b (drawing_length d.size (groups_of d.words)) (enough b e)

  drawn_byte : (mask : List ℕ) (column row : ℕ) → column < d.size.width → row < d.size.height
      → byte_at d.size (mask_after_drawing (Ok tt) d mask) column row ≡ get_or (drawing_row d.size (groups_of d.words) row) column 0
  drawn_byte mask column row c r =
      front_byte d.size cells (drop (cells_of d.size) mask) (drawing_length d.size (groups_of d.words)) column row c r
      ∙ drawing_byte d.size (groups_of d.words) column row c r

  room : (b : Buffer) → draw_answer d (lent_of b) ≡ Ok tt → cells_of d.size ≤ length (drawn_on (Ok tt) d b).mask
  room b e = rw (long_mask (drawn_on (Ok tt) d b) b (draw_lengths (Ok tt) b e)) (enough b e).cells

  pub draw_held : (corner : Corner) (l k : Buffer) → draw_answer d (lent_of l) ≡ Ok tt → draw_answer d (lent_of k) ≡ Ok tt
      → MaskHeld (drawn_held corner d) (drawn_on (Ok tt) d l) (drawn_on (Ok tt) d k)
  draw_held corner l k e f = record {
    room = room l e;
    room_too = room k f;
    cells = λ column row c r. record {
      nonneg = drawn_share_nonneg (groups_of d.words) column row;
      most = drawn_share_at_most_one (groups_of d.words) column row;
      byte = rw (drawn_byte l.mask column row c r) (drawn_small d.size (groups_of d.words) row column);
      close = drawn_bytes_are_close d l.mask l.ink e column row c r;
      same = drawn_byte l.mask column row c r ∙ sym (drawn_byte k.mask column row c r);
    };
    scanned = numbers_of_rows.rows d.size (mask_after_drawing (Ok tt) d l.mask) l.ink;
    scanned_too = numbers_of_rows.rows d.size (mask_after_drawing (Ok tt) d k.mask) k.ink;
  }

-- ---- a laying-on

-- by an offset or by corners: what is done has room
pub lay_lengths : (l : Laying) (o : Check) (b : Buffers) → (o ≡ Ok tt → LentEnough l.size (lent_of b.at_running)) → lent_of (laid_on o l b) ≡ lent_of b.at_running
lay_lengths l (Err f) b enough = refl
lay_lengths l (Ok _) b enough =
    let cells = laying_of l b.at_running.mask b.at_next.mask in
    written_lengths l.size cells b.at_running (laying_length l b.at_running.mask b.at_next.mask) (enough refl)

-- where the other mask has no cell, and where it has one
none : {a : Cell} {u v : ℕ} → CellHeld a u v → CellHeld (alone a) 0 0
none {a} {u} i =
    record { nonneg = refl≤ (natᶠ 0); most = lit tt; byte = omega arith; close = lay_none u a.share a.difference i.close; same = refl }

times : {a e : Cell} {u v u' v' : ℕ} → CellHeld a u v → CellHeld e u' v' → CellHeld (both a e) (laid_byte u u') (laid_byte v v')
times {a} {e} {u} {v} {u'} i j = record {
  nonneg = share_nonneg i.nonneg j.nonneg;
  most = share_most i.nonneg i.most j.most;
  byte = lay_byte u u' i.byte j.byte;
  close = lay_near u u' a.share e.share a.difference e.difference j.byte i.nonneg i.most i.close j.close;
  same = ap₂ laid_byte i.same j.same;
}

met : (o : Held) {a : Cell} {u v : ℕ} {l k : Buffer} → MaskHeld o l k → CellHeld a u v → (x y : ℤ)
    → CellHeld (meets o a x y) (met_at o.size l.mask u x y) (met_at o.size k.mask v x y)
met o m i (negsuc x) y = none i
met o m i (pos x) (negsuc y) = none i
met o {a} {u} {v} {l} {k} m i (pos x) (pos y) = go (ltb x o.size.width) (ltb y o.size.height) refl refl
  where
    go : (s t : Bool) → ltb x o.size.width ≡ s → ltb y o.size.height ≡ t → CellHeld (cond (s && t) (both a (o.cell x y)) (alone a))
        (cond (s && t) (laid_byte u (byte_at o.size l.mask x y)) 0) (cond (s && t) (laid_byte v (byte_at o.size k.mask x y)) 0)
    go true true p q = times i (m.cells x y (ltb-true x o.size.width p) (ltb-true y o.size.height q))
    go true false p q = none i
    go false t p q = none i

module _ (h o : Held) (offset : Offset) where
  abbrev given : Laying
  given = laying h.size o.size offset

  long : (mask other : List ℕ) → cells_of h.size ≤ length mask → length (mask_after_laying (Ok tt) given mask other) ≡ length mask
  long mask other r = whole_length h.size (laying_of given mask other) mask (laying_length given mask other) r

  laid_byte_lem : (mask other : List ℕ) (column row : ℕ) → column < h.size.width → row < h.size.height
      → byte_at h.size (mask_after_laying (Ok tt) given mask other) column row ≡ laid_cell given other (byte_at h.size mask column row) column row
  laid_byte_lem mask other column row c r =
      front_byte h.size (laying_of given mask other) (drop (cells_of h.size) mask) (laying_length given mask other) column row c r
      ∙ laying_byte given mask other column row c r

  pub lay_held : (b d : Buffers) → MaskHeld h b.at_running d.at_running → MaskHeld o b.at_next d.at_next
      → MaskHeld (laid_held h o offset) (laid_on (Ok tt) given b) (laid_on (Ok tt) given d)
  lay_held b d m n =
      let l = b.at_running.mask in
      let k = d.at_running.mask in
      let l' = b.at_next.mask in
      let k' = d.at_next.mask in
      record {
        room = rw (long l l' m.room) m.room;
        room_too = rw (long k k' m.room_too) m.room_too;
        cells = λ column row c r.
            subst₂ (λ (x y : ℕ). CellHeld ((laid_held h o offset).cell column row) x y) (sym (laid_byte_lem l l' column row c r)) (sym (laid_byte_lem k k' column row c r))
            (met o n (m.cells column row c r) (pos column +ℤ offset.x) (pos row +ℤ offset.y));
        scanned = numbers_of_rows.rows h.size (mask_after_laying (Ok tt) given l l') b.at_running.ink;
        scanned_too = numbers_of_rows.rows h.size (mask_after_laying (Ok tt) given k k') d.at_running.ink;
      }
