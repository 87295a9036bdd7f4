-- Ink kept while a mask changes, row by row: from a mask of zeros, through each row that is changed, to what a scan of the
-- whole mask finds. Assumes nothing.
use mathlib.Core.Path.{◌≡◌, refl, sym, ap, ◌∙◌}
use mathlib.Core.Logic.{inl, ◌≢◌}
use mathlib.Core.List.{List, ◌++◌, append-nil}
use Prim.Native.Nat.{ℕ, zero, suc, ◌+◌, ◌*◌, ◌-◌, ◌/◌, ◌≤◌, ◌<◌}
use native.Mathlib.Nat.{mul-le-mul_right, suc-mul}
use native.Mathlib.Decide.{ℕ_discrete, dec_lt}
use native.Mathlib.Omega.{arith}
use lib.ListN.{length, get_or, set, take, drop, replicate, length-set, length-take, drop_of_length-le, get_or-eq_default}
use lib.Seq.{get_or-take, get_or-drop, get_or-set_same, get_or-set_other, length-take-le, take_at, drop_at, ext_get_or}
use borrow.Rule.Slice.PartMut.{mid_of, post_of, put_mid, same_len_mid, take_put, drop_put, mid_len}
use Rattle.cells.specs.declared.Size.{Size}
use Rattle.cells.specs.Cells.{cells_of, byte_at}
use Rattle.ink.specs.declared.Stretch.{Stretch}
use Rattle.ink.specs.Ink.{ink_of, line_at, ink_of_rows, ink_after, stretch_at, Scanned}
use Rattle.ink.specs.Lent.{ink_needed}
use Rattle.ink.specs.Grown.{InkKept}
use Rattle.ink.proofs.Stretches.{make, same, ink_only}
use Rattle.ink.proofs.Lines.{row_fits, line_same}
use Rattle.ink.proofs.Laws.{numbers_of_rows}

-- ---- a mask of zeros

zero_at : (n i : ℕ) → ◌≡◌ {A = ℕ} (get_or (replicate n 0) i 0) 0
zero_at zero zero = refl
zero_at zero (suc i) = refl
zero_at (suc n) zero = refl
zero_at (suc n) (suc i) = zero_at n i

pub kept_zeros : {size : Size} {mask ink : List ℕ} (n m : ℕ) → mask ≡ replicate n 0 → ink ≡ replicate m 0 → length ink ≡ ink_needed size → InkKept size mask ink
kept_zeros {size} {mask} {ink} n m a b long = record { long = long; scanned = λ row h. same (stretch_at ink row) (make 0 0) (number (2 * row)) (number (suc (2 * row))) ∙ blank row }
  where
    number : (i : ℕ) → get_or ink i 0 ≡ 0
    number i = ap (λ (l : List ℕ). get_or l i 0) b ∙ zero_at m i

    byte : (row c : ℕ) → Dec (c < size.width) → get_or (line_at size mask row) c 0 ≡ 0
    byte row c (yes h) =
        get_or-take size.width (drop (row * size.width) mask) c 0 h ∙ get_or-drop (row * size.width) mask c 0
        ∙ ap (λ (l : List ℕ). get_or l (row * size.width + c) 0) a ∙ zero_at n (row * size.width + c)
    byte row c (no h) = get_or-eq_default (line_at size mask row) 0 (omega (arith, length-take size.width (drop (row * size.width) mask)))

    blank : (row : ℕ) → make 0 0 ≡ ink_of (line_at size mask row)
    blank row = ink_only (line_at size mask row) (make 0 0) (inl (record { first_0 = refl; end_0 = refl; zeros = λ c. byte row c (dec_lt c size.width) }))

-- ---- one row changed

module _ {size : Size} {mask ink : List ℕ} (kept : InkKept size mask ink) (cells : cells_of size ≡ length mask) (row from : ℕ) (low : row < size.height)
    (place : from ≡ row * size.width) (line : List ℕ) (long : length line ≡ length (mid_of from (from + size.width - from) mask)) {s : Stretch} (is : s ≡ ink_of line) where
  abbrev w : ℕ
  w = size.width

  abbrev mask' : List ℕ
  mask' = put_mid from (from + w - from) mask line

  abbrev ink' : List ℕ
  ink' = set (set ink (2 * row) s.first) (2 * row + 1) s.end

  room : from + w ≤ length mask
  room = let f = row_fits size row low in omega arith

  wide : length line ≡ w
  wide = let a = mid_len from (from + w) mask room in omega arith

  mask_long : length mask' ≡ length mask
  mask_long = same_len_mid from (from + w - from) mask line long

  before : (i : ℕ) → i < from → get_or mask' i 0 ≡ get_or mask i 0
  before i h =
      sym (get_or-take from mask' i 0 h) ∙ ap (λ (l : List ℕ). get_or l i 0) (take_put from (from + w - from) mask line (let r = room in omega arith)) ∙ get_or-take from mask i 0 h

  behind : (i : ℕ) → from + w ≤ i → get_or mask' i 0 ≡ get_or mask i 0
  behind i h =
      let e : from + w + (i - (from + w)) ≡ i = omega arith in
      let d : from + w - from ≡ w = omega arith in
      ap (λ (k : ℕ). get_or mask' k 0) (sym e) ∙ sym (get_or-drop (from + w) mask' (i - (from + w)) 0)
      ∙ ap (λ (l : List ℕ). get_or l (i - (from + w)) 0) (drop_put from (from + w) mask line (omega arith) room (wide ∙ sym d))
      ∙ get_or-drop (from + w) mask (i - (from + w)) 0 ∙ ap (λ (k : ℕ). get_or mask k 0) e

  -- the row itself
  own_line : line_at size mask' row ≡ line
  own_line =
      let rest = post_of from (from + w - from) mask in
      let n : length (take from mask) ≡ from = length-take-le from mask (let r = room in omega arith) in
      ap (take w) (ap (λ (k : ℕ). drop k mask') (sym place) ∙ drop_at (take from mask) (line ++ rest) from n) ∙ take_at line rest w wide

  own_first : get_or ink' (2 * row) 0 ≡ s.first
  own_first =
      let l = kept.long in
      get_or-set_other (set ink (2 * row) s.first) (2 * row + 1) (2 * row) s.end 0 (λ e. omega arith) ∙ get_or-set_same ink (2 * row) s.first 0 (omega arith)

  own_end : get_or ink' (suc (2 * row)) 0 ≡ s.end
  own_end =
      let l = kept.long in
      let e : suc (2 * row) ≡ 2 * row + 1 = omega arith in
      ap (λ (k : ℕ). get_or ink' k 0) e ∙ get_or-set_same (set ink (2 * row) s.first) (2 * row + 1) s.end 0 (rw (length-set ink (2 * row) s.first) (omega arith))

  -- another
  other_line : (r : ℕ) → r < size.height → r ≢ row → line_at size mask' r ≡ line_at size mask r
  other_line r h d = line_same size r h mask' mask (omega (arith, mask_long)) (omega arith) (λ c l. go c l (dec_lt r row))
    where
      go : (c : ℕ) → c < w → Dec (r < row) → byte_at size mask' c r ≡ byte_at size mask c r
      go c l (yes p) =
          let a : suc r * w ≤ row * w = mul-le-mul_right w p in
          let b : suc r * w ≡ r * w + w = suc-mul r w in
          before (r * w + c) (omega arith)
      go c l (no p) =
          let q : row < r = omega arith in
          let a : suc row * w ≤ r * w = mul-le-mul_right w q in
          let b : suc row * w ≡ row * w + w = suc-mul row w in
          behind (r * w + c) (omega arith)

  other_number : (i : ℕ) → i ≢ 2 * row → i ≢ 2 * row + 1 → get_or ink' i 0 ≡ get_or ink i 0
  other_number i a b = get_or-set_other (set ink (2 * row) s.first) (2 * row + 1) i s.end 0 b ∙ get_or-set_other ink (2 * row) i s.first 0 a

  pub kept_row : InkKept size mask' ink'
  kept_row = record {
    long = length-set (set ink (2 * row) s.first) (2 * row + 1) s.end ∙ length-set ink (2 * row) s.first ∙ kept.long;
    scanned = λ r h. go r h (ℕ_discrete r row);
  }
    where
      go : (r : ℕ) → r < size.height → Dec (r ≡ row) → stretch_at ink' r ≡ ink_of (line_at size mask' r)
      go r h (yes e) =
          ap (stretch_at ink') e ∙ same (stretch_at ink' row) s own_first own_end ∙ is ∙ ap ink_of (sym own_line) ∙ ap (λ (k : ℕ). ink_of (line_at size mask' k)) (sym e)
      go r h (no d) =
          same (stretch_at ink' r) (stretch_at ink r) (other_number (2 * r) (λ e. d (omega arith)) (λ e. omega arith)) (other_number (suc (2 * r)) (λ e. omega arith) (λ e. d (omega arith)))
          ∙ kept.scanned r h ∙ ap ink_of (sym (other_line r h d))

-- ---- what a scan finds

scans_alike : (size : Size) (mask one other : List ℕ) → length one ≡ ink_needed size → length one ≡ length other → Scanned size mask one → Scanned size mask other → one ≡ other
scans_alike size mask one other n l a b = ext_get_or 0 one other l (λ i h. go i h (dec_lt (2 * (i / 2)) i))
  where
    alike : (r : ℕ) → r < size.height → stretch_at one r ≡ stretch_at other r
    alike r h = a r h ∙ sym (b r h)

    go : (i : ℕ) → i < length one → Dec (2 * (i / 2) < i) → get_or one i 0 ≡ get_or other i 0
    go i h (yes p) =
        let e : suc (2 * (i / 2)) ≡ i = omega arith in
        ap (λ (k : ℕ). get_or one k 0) (sym e) ∙ ap (λ (s : Stretch). s.end) (alike (i / 2) (omega arith)) ∙ ap (λ (k : ℕ). get_or other k 0) e
    go i h (no p) =
        let e : 2 * (i / 2) ≡ i = omega arith in
        ap (λ (k : ℕ). get_or one k 0) (sym e) ∙ ap (λ (s : Stretch). s.first) (alike (i / 2) (omega arith)) ∙ ap (λ (k : ℕ). get_or other k 0) e

pub kept_all : {size : Size} {mask ink : List ℕ} → InkKept size mask ink → ink ≡ ink_of_rows size mask
kept_all {size} {mask} {ink} k =
    let n = k.long in
    let le : length ink ≤ ink_needed size = omega arith in
    scans_alike size mask ink (ink_after size mask ink) n (sym (numbers_of_rows.kept size mask ink (omega arith))) k.scanned (numbers_of_rows.rows size mask ink)
    ∙ ap (λ (l : List ℕ). ink_of_rows size mask ++ l) (drop_of_length-le ink le) ∙ append-nil (ink_of_rows size mask)
