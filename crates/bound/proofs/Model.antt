-- What `span` does to a row, as a list of entries: `span_e` has those that `span_by` adds, and so on for its parts.
-- Assumes nothing.
use Prim.Native.Nat.{ℕ, zero, suc, ◌+◌, ◌-◌}
use mathlib.Core.Path.{◌≡◌, refl, sym, ap, ◌∙◌}
use mathlib.Core.Bool.{Bool, true, false, cond}
use mathlib.Core.List.{List, [], ◌∷◌, ◌++◌}
use lib.Dec.{leb, eqb}
use lib.ListN.{length}
use lib.Ieee.{Float, lt, le}
use Rattle.float.specs.Ops.{◌⊕◌, ◌⊖◌, ◌⊗◌, ◌⊘◌, f0, f½, f1}
use Rattle.whole.specs.Whole.{column_of, of_whole}
use Rattle.accumulation.proofs.Adding.{length_add}
use Rattle.accumulation.specs.Area.{Cells, add_of, evenly_of, single_of, between_of, across_of}
use Rattle.row.specs.Row.{ceil_column, inside_of, clip_of, left_end, right_end, span_by}
use Rattle.bound.proofs.Entries.{Entry, entry, added, added_append}

unfoldable pub even_e : ℕ → ℕ → Float → List Entry
even_e zero cell amount = []
even_e (suc n) cell amount = entry cell amount ∷ even_e n (cell + 1) amount

abbrev pub single_e : ℕ → Float → Float → List Entry
single_e cell middle amount = entry cell (amount ⊗ (f1 ⊖ middle)) ∷ entry (cell + 1) (amount ⊗ middle) ∷ []

-- the numbers of an edge across cells
abbrev pub per_of : Float → Float → Float
per_of lo hi = f1 ⊘ (hi ⊖ lo)

abbrev pub enters_of : Float → ℕ → Float
enters_of lo cell = f1 ⊖ (lo ⊖ of_whole cell)

abbrev pub leaves_of : Float → ℕ → Float
leaves_of hi last = hi ⊖ (of_whole last ⊖ f1)

abbrev pub corner_of : Float → Float → Float
corner_of per side = f½ ⊗ per ⊗ side ⊗ side

abbrev pub second_of : Float → Float → Float
second_of per enters = per ⊗ (enters ⊕ f½)

abbrev pub before_of : Float → Float → ℕ → ℕ → Float
before_of per enters cell last = second_of per enters ⊕ of_whole (last - cell - 3) ⊗ per

abbrev pub two_e : ℕ → ℕ → Float → Float → Float → List Entry
two_e cell last amount head tail = entry (cell + 1) (amount ⊗ (f1 ⊖ head ⊖ tail)) ∷ entry last (amount ⊗ tail) ∷ []

abbrev pub more_e : ℕ → ℕ → Float → Float → Float → Float → Float → List Entry
more_e cell last amount per enters head tail =
    entry (cell + 1) (amount ⊗ (second_of per enters ⊖ head)) ∷
    even_e (last - 1 - (cell + 2)) (cell + 2) (amount ⊗ per) ++ (entry (last - 1) (amount ⊗ (f1 ⊖ before_of per enters cell last ⊖ tail)) ∷ entry last (amount ⊗ tail) ∷ [])

abbrev pub between_e : ℕ → ℕ → Float → Float → Float → Float → Float → List Entry
between_e cell last amount per enters head tail = cond (eqb last (cell + 2)) (two_e cell last amount head tail) (more_e cell last amount per enters head tail)

abbrev pub across_e : Float → Float → ℕ → ℕ → Float → List Entry
across_e lo hi cell last amount =
    let per = per_of lo hi in
    let enters = enters_of lo cell in
    let leaves = leaves_of hi last in
    let head = corner_of per enters in
    let tail = corner_of per leaves in
    entry cell (amount ⊗ head) ∷ between_e cell last amount per enters head tail

abbrev pub halfway : Float → Float → Float
halfway lo hi = f½ ⊗ (lo ⊕ hi) ⊖ of_whole (column_of lo)

unfoldable pub inside_e : Float → Float → Float → List Entry
inside_e lo hi amount =
    cond (leb (ceil_column hi) (column_of lo + 1)) (single_e (column_of lo) (halfway lo hi) amount) (across_e lo hi (column_of lo) (ceil_column hi) amount)

unfoldable pub clip_e : Float → (Float → Float → Float → List Entry) → Float → Float → Float → List Entry
clip_e width onward lo hi amount =
    let outside = lo ⊘ (lo ⊖ hi) in
    cond (le width lo) []
    (cond (le hi f0) (entry 0 amount ∷ [])
    (cond (lt lo f0) (entry 0 (amount ⊗ outside) ∷ onward f0 hi (amount ⊗ (f1 ⊖ outside)))
    (cond (lt width hi) (onward lo width (amount ⊗ ((width ⊖ lo) ⊘ (hi ⊖ lo))))
    (inside_e lo hi amount))))

unfoldable pub span_e : ℕ → ℕ → Float → Float → Float → List Entry
span_e width zero xa xb amount = []
span_e width (suc n) xa xb amount = clip_e (of_whole width) (span_e width n) (left_end xa xb) (right_end xa xb) amount

-- ---- they are what is added
added_even : (n : ℕ) (cells : Cells) (i : ℕ) (f : Float) → evenly_of n cells i f ≡ added cells (even_e n i f)
unfolding added evenly_of even_e
added_even zero cells i f = refl
added_even (suc n) cells i f = added_even n (add_of cells i f) (i + 1) f

-- a choice of lists
added_cond : (b : Bool) (l m : List Entry) (cells x y : Cells) → x ≡ added cells l → y ≡ added cells m → cond b x y ≡ added cells (cond b l m)
added_cond true l m cells x y h k = h
added_cond false l m cells x y h k = k

-- a choice of lists, and one entry more
added_cond' : (b : Bool) (l m : List Entry) (cells x y : Cells) (j : ℕ) (f : Float) → add_of x j f ≡ added cells l → add_of y j f ≡ added cells m → add_of (cond b x y) j f ≡ added cells (cond b l m)
added_cond' true l m cells x y j f h k = h
added_cond' false l m cells x y j f h k = k

added_between : (cells : Cells) (i j : ℕ) (a per enters head tail : Float) → add_of (between_of cells i j a per enters head tail) j (a ⊗ tail) ≡ added cells (between_e i j a per enters head tail)
unfolding added between_of
added_between cells i j a per enters head tail =
    let x2 = a ⊗ (second_of per enters ⊖ head) in
    let x4 = a ⊗ (f1 ⊖ before_of per enters i j ⊖ tail) in
    added_cond' (eqb j (i + 2)) (two_e i j a head tail) (more_e i j a per enters head tail) cells
    (add_of cells (i + 1) (a ⊗ (f1 ⊖ head ⊖ tail)))
    (add_of (evenly_of (j - 1 - (i + 2)) (add_of cells (i + 1) x2) (i + 2) (a ⊗ per)) (j - 1) x4)
    j (a ⊗ tail)
    refl
    (ap (λ (z : Cells). add_of (add_of z (j - 1) (a ⊗ (f1 ⊖ before_of per enters i j ⊖ tail))) j (a ⊗ tail)) (added_even (j - 1 - (i + 2)) (add_of cells (i + 1) x2) (i + 2) (a ⊗ per))
    ∙ sym (added_append (add_of cells (i + 1) x2) (even_e (j - 1 - (i + 2)) (i + 2) (a ⊗ per)) (entry (j - 1) x4 ∷ entry j (a ⊗ tail) ∷ [])))

added_across : (cells : Cells) (lo hi : Float) (i j : ℕ) (a : Float) → across_of cells lo hi i j a ≡ added cells (across_e lo hi i j a)
unfolding added across_of
added_across cells lo hi i j a =
    let per = per_of lo hi in
    let enters = enters_of lo i in
    let head = corner_of per enters in
    let tail = corner_of per (leaves_of hi j) in
    added_between (add_of cells i (a ⊗ head)) i j a per enters head tail

added_inside : (cells : Cells) (lo hi a : Float) → inside_of cells lo hi a ≡ added cells (inside_e lo hi a)
unfolding inside_of inside_e
added_inside cells lo hi a = added_cond (leb (ceil_column hi) (column_of lo + 1)) (single_e (column_of lo) (halfway lo hi) a) (across_e lo hi (column_of lo) (ceil_column hi) a) cells
    (single_of cells (column_of lo) (halfway lo hi) a) (across_of cells lo hi (column_of lo) (ceil_column hi) a)
    (unfold single_of added in refl) (added_across cells lo hi (column_of lo) (ceil_column hi) a)

added_clip : (n : ℕ) (cells : Cells) (a lo hi : Float) → ((cs : Cells) (xa xb a : Float) → length cs ≡ length cells → span_by n cs xa xb a ≡ added cs (span_e (length cells) n xa xb a))
    → clip_of (span_by n) cells lo hi a ≡ added cells (clip_e (of_whole (length cells)) (span_e (length cells) n) lo hi a)
unfolding clip_of clip_e
added_clip n cells a lo hi ih =
    let w = length cells in
    let W = of_whole w in
    let o = lo ⊘ (lo ⊖ hi) in
    let part = a ⊗ ((W ⊖ lo) ⊘ (hi ⊖ lo)) in
    let l4 : List Entry = cond (lt W hi) (span_e w n lo W part) (inside_e lo hi a) in
    let l3 : List Entry = cond (lt lo f0) (entry 0 (a ⊗ o) ∷ span_e w n f0 hi (a ⊗ (f1 ⊖ o))) l4 in
    let c4 : Cells = cond (lt W hi) (span_by n cells lo W part) (inside_of cells lo hi a) in
    let c3 : Cells = cond (lt lo f0) (span_by n (add_of cells 0 (a ⊗ o)) f0 hi (a ⊗ (f1 ⊖ o))) c4 in
    added_cond (le W lo) [] (cond (le hi f0) (entry 0 a ∷ []) l3) cells cells (cond (le hi f0) (add_of cells 0 a) c3) (unfold added in refl)
    (added_cond (le hi f0) (entry 0 a ∷ []) l3 cells (add_of cells 0 a) c3 (unfold added in refl)
    (added_cond (lt lo f0) (entry 0 (a ⊗ o) ∷ span_e w n f0 hi (a ⊗ (f1 ⊖ o))) l4 cells (span_by n (add_of cells 0 (a ⊗ o)) f0 hi (a ⊗ (f1 ⊖ o))) c4
    (unfold added in ih (add_of cells 0 (a ⊗ o)) f0 hi (a ⊗ (f1 ⊖ o)) (length_add cells 0 (a ⊗ o)))
    (added_cond (lt W hi) (span_e w n lo W part) (inside_e lo hi a) cells (span_by n cells lo W part) (inside_of cells lo hi a) (ih cells lo W part refl) (added_inside cells lo hi a))))

-- THE MODEL
pub span_is : (n w : ℕ) (cells : Cells) (xa xb a : Float) → length cells ≡ w → span_by n cells xa xb a ≡ added cells (span_e w n xa xb a)
unfolding span_by span_e
span_is zero w cells xa xb a e = unfold added in refl
span_is (suc n) w cells xa xb a e =
    added_clip n cells a (left_end xa xb) (right_end xa xb) (λ cs xa xb a k. span_is n (length cells) cs xa xb a k)
    ∙ ap (λ (v : ℕ). added cells (clip_e (of_whole v) (span_e v n) (left_end xa xb) (right_end xa xb) a)) e
