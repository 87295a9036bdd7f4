-- Cells that are added to: by `add` one, by `evenly` a run of them. Assumes nothing.
use mathlib.Core.Path.{◌≡◌, refl, sym, ap, ◌∙◌}
use mathlib.Core.Logic.{◌⊎◌, inl, inr}
use mathlib.Core.Bool.{Bool, true, false, cond}
use mathlib.Core.List.{[], ◌∷◌, ◌++◌, map, append_assoc}
use Prim.Native.Nat.{ℕ, zero, suc, ◌+◌, ◌-◌, ◌<◌, ◌≤◌, min}
use native.Mathlib.Numerals.{add-one}
use native.Mathlib.Omega.{arith}
use native.Mathlib.Decide.{dec_lt}
use lib.Dec.{ltb}
use lib.ListN.{length, get_or, set, take, drop, length-set, take-append-drop, get_or-append}
use lib.Seq.{get_or-set_other, get_or-append-add, get_or-drop, get_or-take, drop-cons, drop-set-lt, take-suc-set, length-take-le}
use lib.Ieee.{Float, nan, ne}
use borrow.Author.Tests.{lt-ltb, le-ltb, eq-eqb, ne_eqb}
use borrow.Rule.Slice.PartMut.{put_mid}
use Rattle.float.specs.Ops.{f0, f½, f1, ◌⊕◌, ◌⊖◌, ◌⊗◌, ◌⊘◌}
use Rattle.whole.specs.Whole.{of_whole}
use Rattle.accumulation.specs.Area.{Cells, add_of, evenly_of, single_of, between_of, across_of}

-- ---- one cell

pub add_in : (cells : Cells) (cell : ℕ) (area : Float) → cell < length cells → ne area f0 ≡ true
    → set cells cell (get_or cells cell nan ⊕ area) ≡ add_of cells cell area
unfolding add_of
add_in cells cell area h n = simp (lt-ltb _ _ h, n)

pub add_none : (cells : Cells) (cell : ℕ) (area : Float) → ne area f0 ≡ false → cells ≡ add_of cells cell area
unfolding add_of
add_none cells cell area n = rw n (go (ltb cell (length cells)))
  where
    go : (b : Bool) → cells ≡ cond b cells cells
    go true = refl
    go false = refl

pub add_out : (cells : Cells) (cell : ℕ) (area : Float) → length cells ≤ cell → cells ≡ add_of cells cell area
unfolding add_of
add_out cells cell area h = simp (le-ltb _ _ h)

pub length_add : (cells : Cells) (cell : ℕ) (area : Float) → length (add_of cells cell area) ≡ length cells
unfolding add_of
length_add cells cell area = go (ltb cell (length cells)) (ne area f0)
  where
    go : (b d : Bool) → length (cond b (cond d (set cells cell (get_or cells cell nan ⊕ area)) cells) cells) ≡ length cells
    go true true = length-set cells cell (get_or cells cell nan ⊕ area)
    go true false = refl
    go false d = refl

pub set_apart : (cells : Cells) (cell : ℕ) (v : Float) (c : ℕ) → (c < cell) ⊎ (cell + 1 ≤ c) → get_or (set cells cell v) c nan ≡ get_or cells c nan
set_apart cells cell v c (inl p) = get_or-set_other cells cell c v nan (λ e. omega arith)
set_apart cells cell v c (inr p) = get_or-set_other cells cell c v nan (λ e. omega arith)

-- ---- a run of cells

-- nothing is added past the row's end, and no area adds nothing
evenly_out : (n : ℕ) (cells : Cells) (from : ℕ) (area : Float) → length cells ≤ from → evenly_of n cells from area ≡ cells
unfolding evenly_of
evenly_out zero cells from area h = refl
evenly_out (suc n) cells from area h =
    ap (λ (l : Cells). evenly_of n l (from + 1) area) (sym (add_out cells from area h)) ∙ evenly_out n cells (from + 1) area (omega arith)

evenly_none : (n : ℕ) (cells : Cells) (from : ℕ) (area : Float) → ne area f0 ≡ false → evenly_of n cells from area ≡ cells
unfolding evenly_of
evenly_none zero cells from area z = refl
evenly_none (suc n) cells from area z =
    ap (λ (l : Cells). evenly_of n l (from + 1) area) (sym (add_none cells from area z)) ∙ evenly_none n cells (from + 1) area z

evenly_split : (n m : ℕ) (cells : Cells) (from : ℕ) (area : Float) → evenly_of (n + m) cells from area ≡ evenly_of m (evenly_of n cells from area) (from + n) area
unfolding evenly_of
evenly_split zero m cells from area =
    let e : from ≡ from + 0 = omega arith in
    let z : 0 + m ≡ m = omega arith in
    ap (λ (k : ℕ). evenly_of k cells from area) z ∙ ap (λ (k : ℕ). evenly_of m cells k area) e
evenly_split (suc n) m cells from area =
    let e : from + 1 + n ≡ from + suc n = omega arith in
    let s : suc n + m ≡ suc (n + m) = omega arith in
    let more = add_of cells from area in
    rw s (evenly_split n m more (from + 1) area ∙ ap (λ (k : ℕ). evenly_of m (evenly_of n more (from + 1) area) k area) e)

evenly_length : (n : ℕ) (cells : Cells) (from : ℕ) (area : Float) → length (evenly_of n cells from area) ≡ length cells
unfolding evenly_of
evenly_length zero cells from area = refl
evenly_length (suc n) cells from area = evenly_length n (add_of cells from area) (from + 1) area ∙ length_add cells from area

-- within the row each cell is raised
evenly_in : (n : ℕ) (cells : Cells) (from : ℕ) (area : Float) → from + n ≤ length cells → ne area f0 ≡ true
    → evenly_of n cells from area ≡ put_mid from n cells (map (λ (x : Float). x ⊕ area) (take n (drop from cells)))
unfolding evenly_of
evenly_in zero cells from area h z = sym (take-append-drop from cells)
evenly_in (suc n) cells from area h z =
    let v : Float = get_or cells from nan ⊕ area in
    let f : Float → Float = λ x. x ⊕ area in
    let own : add_of cells from area ≡ set cells from v = sym (add_in cells from area (omega arith) z) in
    let rest : Cells = drop (suc from) cells in
    let opened : drop from cells ≡ get_or cells from nan ∷ rest = drop-cons cells from nan (omega arith) in
    rw (own, add-one)
    (evenly_in n (set cells from v) (suc from) area (rw length-set (omega arith)) z
    ∙ rw (take-suc-set cells from v (omega arith), drop-set-lt (suc from) cells from v (omega arith), opened)
    (append_assoc (take from cells) (v ∷ []) (map f (take n rest) ++ drop n rest)))

module _ (cells : Cells) (from to : ℕ) (area : Float) where
  abbrev end : ℕ
  end = min to (length cells)

  abbrev raised : ℕ → Cells
  raised n = put_mid from (n - from) cells (map (λ (x : Float). x ⊕ area) (take (n - from) (drop from cells)))

  pub evenly_run : {n : ℕ} → n ≡ end → from < n → ne area f0 ≡ true → raised n ≡ evenly_of (to - from) cells from area
  unfolding evenly_of
  evenly_run {n} e h z =
      let s : to - from ≡ (n - from) + (to - n) = omega arith in
      sym (evenly_in (n - from) cells from area (omega arith) z)
      ∙ sym (ap (λ (k : ℕ). evenly_of k cells from area) s ∙ evenly_split (n - from) (to - n) cells from area ∙ past (dec_lt to (length cells)))
    where
      within : Cells
      within = evenly_of (n - from) cells from area

      past : Dec (to < length cells) → evenly_of (to - n) within (from + (n - from)) area ≡ within
      past (yes p) = let e : to - n ≡ 0 = omega arith in rw e refl
      past (no p) = evenly_out (to - n) within (from + (n - from)) area (omega (arith, evenly_length (n - from) cells from area))

  pub evenly_zero : ne area f0 ≡ false → cells ≡ evenly_of (to - from) cells from area
  evenly_zero z = sym (evenly_none (to - from) cells from area z)

  pub evenly_beyond : end ≤ from → cells ≡ evenly_of (to - from) cells from area
  unfolding evenly_of
  evenly_beyond h = go (dec_lt to (from + 1))
    where
      go : Dec (to < from + 1) → cells ≡ evenly_of (to - from) cells from area
      go (yes p) = let e : to - from ≡ 0 = omega arith in rw e refl
      go (no p) = sym (evenly_out (to - from) cells from area (omega arith))

-- a part that is replaced leaves the cells before and behind it
pub part_apart : (cells ys : Cells) (from to : ℕ) → from ≤ to → to ≤ length cells → length ys ≡ to - from
    → (c : ℕ) → (c < from) ⊎ (to ≤ c) → get_or (put_mid from (to - from) cells ys) c nan ≡ get_or cells c nan
part_apart cells ys from to o h l c side = go side
  where
    behind : Cells
    behind = drop (to - from) (drop from cells)

    front : length (take from cells) ≡ from
    front = length-take-le from cells (omega arith)

    go : (c < from) ⊎ (to ≤ c) → get_or (put_mid from (to - from) cells ys) c nan ≡ get_or cells c nan
    go (inl p) = get_or-append (take from cells) (ys ++ behind) nan c (rw front p) ∙ get_or-take from cells c nan p
    go (inr p) =
        let k : ℕ = c - to in
        let t = front in
        let a : c ≡ length (take from cells) + (length ys + k) = omega arith in
        let b : from + (to - from + k) ≡ c = omega arith in
        ap (λ (j : ℕ). get_or (put_mid from (to - from) cells ys) j nan) a
        ∙ get_or-append-add (take from cells) (ys ++ behind) (length ys + k) nan ∙ get_or-append-add ys behind k nan
        ∙ get_or-drop (to - from) (drop from cells) k nan ∙ get_or-drop from cells (to - from + k) nan ∙ ap (λ (j : ℕ). get_or cells j nan) b

-- ---- what the calls of a piece come to

pub single_is : (cells : Cells) (cell : ℕ) (middle area : Float) {c₁ c₂ : Cells} → c₁ ≡ add_of cells cell (area ⊗ (f1 ⊖ middle))
    → c₂ ≡ add_of c₁ (cell + 1) (area ⊗ middle) → c₂ ≡ single_of cells cell middle area
unfolding single_of
single_is cells cell middle area p q = rw p at q

module _ (cells : Cells) (cell last : ℕ) (area per_cell enters head tail : Float) where
  abbrev second : Float
  second = per_cell ⊗ (enters ⊕ f½)

  pub between_one : {c₁ : Cells} → last ≡ cell + 2 → c₁ ≡ add_of cells (cell + 1) (area ⊗ (f1 ⊖ head ⊖ tail))
      → c₁ ≡ between_of cells cell last area per_cell enters head tail
  unfolding between_of
  between_one h p = rw (eq-eqb last (cell + 2) h) p

  pub between_more : {c₁ c₂ c₃ : Cells} {x : Float} → (last ≡ cell + 2 → ⊥) → c₁ ≡ add_of cells (cell + 1) (area ⊗ (second ⊖ head))
      → c₂ ≡ evenly_of (last - 1 - (cell + 2)) c₁ (cell + 2) (area ⊗ per_cell) → x ≡ of_whole (last - cell - 3)
      → c₃ ≡ add_of c₂ (last - 1) (area ⊗ (f1 ⊖ (second ⊕ x ⊗ per_cell) ⊖ tail)) → c₃ ≡ between_of cells cell last area per_cell enters head tail
  unfolding between_of
  between_more h p q ex r = rw (ne_eqb last (cell + 2) h) (rw (q, p, ex) at r)

module _ (cells : Cells) (lo hi : Float) (cell last : ℕ) (area : Float) {x y : Float} (ex : x ≡ of_whole cell) (ey : y ≡ of_whole last) where
  abbrev per : Float
  per = f1 ⊘ (hi ⊖ lo)

  abbrev enters : Float
  enters = f1 ⊖ (lo ⊖ x)

  abbrev leaves : Float
  leaves = hi ⊖ (y ⊖ f1)

  abbrev head : Float
  head = f½ ⊗ per ⊗ enters ⊗ enters

  abbrev tail : Float
  tail = f½ ⊗ per ⊗ leaves ⊗ leaves

  pub across_is : {c₁ c₂ c₃ : Cells} → c₁ ≡ add_of cells cell (area ⊗ head) → c₂ ≡ between_of c₁ cell last area per enters head tail
      → c₃ ≡ add_of c₂ last (area ⊗ tail)
      → c₃ ≡ across_of cells lo hi cell last area
  unfolding across_of
  across_is p q r = rw (q, p, ex, ey) at r
