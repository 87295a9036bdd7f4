-- A mask as rows, one after another, and rows changed one by one. Assumes nothing.
use mathlib.Core.Path.{◌≡◌, refl, sym, ap, ◌∙◌}
use mathlib.Core.List.{List, ◌++◌, append_assoc}
use Prim.Native.Nat.{ℕ, zero, suc, ◌+◌, ◌-◌, ◌*◌, ◌≤◌, ◌<◌}
use native.Mathlib.Nat.{suc-mul, mul_comm, mul-le-mul_right}
use native.Mathlib.Numerals.{add-one}
use native.Mathlib.Omega.{arith}
use lib.ListN.{length, take, drop, replicate, length-append, length-take, replicate-append-replicate, take-append-drop}
use lib.Seq.{take_at, drop_at}
use borrow.Rule.Slice.PartMut.{mid_of, put_mid, same_len_mid, mid_len}
use Rattle.cells.specs.Rows.{rows_from, rows_changed}

-- ---- rows that are alike

pub rows_alike : (f g : ℕ → List ℕ) → ((row : ℕ) → f row ≡ g row) → (n row : ℕ) → rows_from f n row ≡ rows_from g n row
unfolding rows_from
rows_alike f g e zero row = refl
rows_alike f g e (suc n) row = rw (e row, rows_alike f g e n (suc row)) refl

pub changes_alike : (f g : ℕ → List ℕ → List ℕ) → ((row : ℕ) (line : List ℕ) → f row line ≡ g row line) → (width n row : ℕ) (mask : List ℕ)
    → rows_changed f width n row mask ≡ rows_changed g width n row mask
unfolding rows_changed
changes_alike f g e width zero row mask = refl
changes_alike f g e width (suc n) row mask = rw (e row (take width mask), changes_alike f g e width n (suc row) (drop width mask)) refl

-- rows that are `width` long each, all changed
pub rows_changed_lem : (change : ℕ → List ℕ → List ℕ) (line : ℕ → List ℕ) (width : ℕ) → ((row : ℕ) → length (line row) ≡ width) → (n row : ℕ)
    → rows_changed change width n row (rows_from line n row) ≡ rows_from (λ r. change r (line r)) n row
unfolding rows_changed rows_from
rows_changed_lem change line width long zero row = refl
rows_changed_lem change line width long (suc n) row =
    rw (take_at (line row) (rows_from line n (suc row)) width (long row), drop_at (line row) (rows_from line n (suc row)) width (long row))
    (ap (λ (m : List ℕ). change row (line row) ++ m) (rows_changed_lem change line width long n (suc row)))

-- a mask of zeros has rows of zeros
pub rows_of_zeros : (width n row : ℕ) → replicate (width * n) 0 ≡ rows_from (λ r. replicate width 0) n row
unfolding rows_from
rows_of_zeros width zero row = let e : width * 0 ≡ 0 = omega arith in rw e refl
rows_of_zeros width (suc n) row =
    let e : width * suc n ≡ width + width * n = omega arith in
    rw e (sym (replicate-append-replicate width (width * n) 0) ∙ ap (λ (m : List ℕ). replicate width 0 ++ m) (rows_of_zeros width n (suc row)))

-- ---- a row's room

pub rows_step : (row height width : ℕ) → row < height → (height - row) * width ≡ (height - (row + 1)) * width + width
rows_step row height width h = let e : height - row ≡ suc (height - (row + 1)) = omega arith in rw e (suc-mul (height - (row + 1)) width)

pub row_room : (row width height n : ℕ) → row < height → width * height ≤ n → row * width + width ≤ n
row_room row width height n h g =
    let a : suc row * width ≤ height * width = mul-le-mul_right width h in
    let b : suc row * width ≡ row * width + width = suc-mul row width in
    let c : height * width ≡ width * height = mul_comm height width in
    omega arith

-- ---- a row replaced

module _ (from width : ℕ) (mask line : List ℕ) (room : from + width ≤ length mask) (long : length line ≡ width) where
  abbrev rest : List ℕ
  rest = drop (from + width - from) (drop from mask)

  abbrev after : List ℕ
  after = put_mid from (from + width - from) mask line

  front : length (take from mask ++ line) ≡ from + width
  front = simp (length-append, length-take) (omega arith)

  take_after : take (from + width) after ≡ take from mask ++ line
  take_after = ap (take (from + width)) (sym (append_assoc (take from mask) line rest)) ∙ take_at (take from mask ++ line) rest (from + width) front

  drop_after : drop (from + width) after ≡ rest
  drop_after = ap (drop (from + width)) (sym (append_assoc (take from mask) line rest)) ∙ drop_at (take from mask ++ line) rest (from + width) front

  -- what is to be done from the row on is to be done from the next one on
  row_turn : (change : ℕ → List ℕ → List ℕ) (n row : ℕ) → line ≡ change row (mid_of from (from + width - from) mask)
      → take from mask ++ rows_changed change width (suc n) row (drop from mask)
      ≡ take (from + width) after ++ rows_changed change width n (suc row) (drop (from + width) after)
  unfolding rows_changed
  row_turn change n row is =
      let e : from + width - from ≡ width = omega arith in
      let l : line ≡ change row (take width (drop from mask)) = is ∙ ap (λ (k : ℕ). change row (take k (drop from mask))) e in
      let later = rows_changed change width n (suc row) (drop width (drop from mask)) in
      ap (λ (b : List ℕ). take from mask ++ (b ++ later)) (sym l) ∙ sym (append_assoc (take from mask) line later)
      ∙ sym (rw (take_after, drop_after, e) refl)

-- ---- rows changed from the first on: those before `row` are, and what is left to do is done as before
pub record ChangedTo (change : ℕ → List ℕ → List ℕ) (width height : ℕ) (mask₀ mask : List ℕ) (from row : ℕ) : Type 0 where
  pub within : row ≤ height
  pub place : from + (height - row) * width ≡ length mask
  pub long : length mask ≡ length mask₀
  pub rest : rows_changed change width height 0 mask₀ ≡ take from mask ++ rows_changed change width (height - row) row (drop from mask)

module _ {change : ℕ → List ℕ → List ℕ} {width height : ℕ} where
  pub changed_start : {mask : List ℕ} → width * height ≡ length mask → ChangedTo change width height mask mask 0 0
  changed_start h =
      let z : height - 0 ≡ height = omega arith in
      let e : height * width ≡ width * height = mul_comm height width in
      record { within = omega arith; place = rw z (omega arith); long = refl; rest = rw z refl }

  module _ {mask₀ mask : List ℕ} {from row : ℕ} (s : ChangedTo change width height mask₀ mask from row) where
    pub changed_all : height ≤ row → mask ≡ rows_changed change width height 0 mask₀
    unfolding rows_changed
    changed_all h = let e : height - row ≡ 0 = omega arith in sym (s.rest ∙ rw e (take-append-drop from mask))

    module _ (more : row < height) where
      pub line_room : from + width ≤ length mask
      line_room = let a = rows_step row height width more in omega (arith, s.place)

      pub line_long : length (mid_of from (from + width - from) mask) ≡ width
      line_long = let a = mid_len from (from + width) mask line_room in omega arith

      pub changed_more : {line : List ℕ} → length line ≡ length (mid_of from (from + width - from) mask) → line ≡ change row (mid_of from (from + width - from) mask)
          → ChangedTo change width height mask₀ (put_mid from (from + width - from) mask line) (from + width) (row + 1)
      changed_more {line} kept is =
          let n = height - (row + 1) in
          let after = put_mid from (from + width - from) mask line in
          let len : length after ≡ length mask = same_len_mid from (from + width - from) mask line kept in
          let step = rows_step row height width more in
          let e : height - row ≡ suc n = omega arith in
          record {
            within = omega arith;
            place = omega (arith, s.place);
            long = len ∙ s.long;
            rest = s.rest ∙ ap (λ (k : ℕ). take from mask ++ rows_changed change width k row (drop from mask)) e
                ∙ row_turn from width mask line line_room (kept ∙ line_long) change n row is
                ∙ ap (λ (r : ℕ). take (from + width) after ++ rows_changed change width n r (drop (from + width) after)) (sym (add-one row));
          }
