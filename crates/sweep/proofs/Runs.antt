-- A row that is summed in runs: cells that hold 0.0 get the byte of the winding before them, and a touched cell that
-- of its own. Assumes nothing.
use mathlib.Core.Path.{◌≡◌, refl, sym, ap, ◌∙◌}
use mathlib.Core.Bool.{Bool, true, false}
use mathlib.Core.List.{List, [], ◌∷◌, ◌++◌, map, append_assoc, append-nil}
use Prim.Native.Nat.{ℕ, zero, suc, ◌+◌, ◌-◌, ◌<◌, ◌≤◌, min}
use native.Mathlib.Nat.{not-suc-le-zero, le_of_suc-le-suc, add-zero}
use native.Mathlib.Numerals.{add-one}
use native.Mathlib.Omega.{arith}
use lib.Count.{count_trailing_zeros}
use lib.Dec.{T}
use lib.ListN.{length, get_or, set, take, drop, replicate, length-append, length-take, length-drop, length-map, length-set, drop_of_length-le, take-append-drop}
use lib.Seq.{drop-cons, drop-set-lt, take_at, drop_at, take_all, take-suc-set, length-take-le, get_or-append-add, get_or-drop, get_or-set_other}
use lib.Ieee.{Float, nan, binary32, fits, eq, lt, is_nan, rem, mul, add, sub, sum, round, units, odd, size, span, climb, to_unsigned, of_bits, of_fields}
use Rattle.float.specs.Ops.{f0, ◌⊕◌}
use Rattle.float.specs.Simple.{abs_of, min_of}
use Rattle.accumulation.specs.Area.{Cells}
use Rattle.sweep.specs.Bytes.{share_of, covered_of, bytes_of, add_bytes}
use Rattle.sweep.specs.declared.Run.{Run}
use Rattle.sweep.specs.Sweeping.{plus_of, filled_of, Blank, line_from, Steady, Reached, Moved}
use Rattle.sweep.proofs.Winding.{steady_zero, steady_more}

-- ---- lines

-- a full coverage fills every byte
pub full : (l : List ℕ) → replicate (length l) 255 ≡ map (plus_of 255) l
full [] = refl
full (b ∷ l) = let e : 255 ≡ plus_of 255 b = omega arith in rw (← e, ← full l) refl

-- no coverage leaves a byte as it is
pub unchanged : (l : List ℕ) → ((i : ℕ) → get_or l i 0 < 256) → l ≡ map (plus_of 0) l
unchanged [] h = refl
unchanged (x ∷ l) h =
    let b : x < 256 = h 0 in
    let e : min (x + 0) 255 ≡ x = omega arith in
    rw e (ap (λ (r : List ℕ). x ∷ r) (unchanged l (λ i. h (suc i))))

pub filled_none : (from to by : ℕ) (line : List ℕ) → to ≤ from → line ≡ filled_of from to by line
filled_none from to by line h = let e : to - from ≡ 0 = omega arith in rw e (sym (take-append-drop from line))

-- .. and behind the filled bytes a line is as it was
filled_past : (from to by : ℕ) (line : List ℕ) (k : ℕ) → from ≤ to → to ≤ length line → to ≤ k → get_or (filled_of from to by line) k 0 ≡ get_or line k 0
filled_past from to by line k h g p =
    let front = take from line in
    let part = map (plus_of by) (take (to - from) (drop from line)) in
    let rest = drop (to - from) (drop from line) in
    let n : length front ≡ from = length-take-le from line (omega arith) in
    let m : length part ≡ to - from = simp (length-map, length-take, length-drop) (omega arith) in
    let i : k ≡ length front + (length part + (k - to)) = omega arith in
    let j : from + (to - from + (k - to)) ≡ k = omega arith in
    ap (λ (c : ℕ). get_or (filled_of from to by line) c 0) i ∙ get_or-append-add front (part ++ rest) (length part + (k - to)) 0
    ∙ get_or-append-add part rest (k - to) 0 ∙ get_or-drop (to - from) (drop from line) (k - to) 0 ∙ get_or-drop from line (to - from + (k - to)) 0
    ∙ ap (λ (c : ℕ). get_or line c 0) j

add_run : (m b : ℕ) (bs l : List ℕ) → m ≤ length l → add_bytes l (replicate m b ++ bs) ≡ map (plus_of b) (take m l) ++ add_bytes (drop m l) bs
unfolding add_bytes
add_run zero b bs l h = refl
add_run (suc m) b bs [] h = absurd (not-suc-le-zero h)
add_run (suc m) b bs (x ∷ l) h = ap (λ (r : List ℕ). min (x + b) 255 ∷ r) (add_run m b bs l (le_of_suc-le-suc h))

-- ---- cells

-- a stretch of cells that hold 0.0
zeros : (m from : ℕ) (l : Cells) → from + m ≤ length l → Blank l from (from + m) → drop from l ≡ replicate m f0 ++ drop (from + m) l
zeros zero from l h z = rw add-zero refl
zeros (suc m) from l h z =
    let e : suc from + m ≡ from + suc m = omega arith in
    drop-cons l from nan (omega arith)
    ∙ ap (λ (x : Float). x ∷ drop (suc from) l) (z from (omega arith) (omega arith) (omega arith))
    ∙ ap (λ (t : Cells). f0 ∷ t) (zeros m (suc from) l (omega arith) (λ c p q g. z c (omega arith) (omega arith) g))
    ∙ ap (λ (k : ℕ). f0 ∷ (replicate m f0 ++ drop k l)) e

bytes_zeros : (e : Bool) (w : Float) (m : ℕ) (r : Cells) → Steady w → bytes_of e w (replicate m f0 ++ r) ≡ replicate m (covered_of e w) ++ bytes_of e w r
unfolding bytes_of
bytes_zeros e w zero r s = refl
bytes_zeros e w (suc m) r s =
    ap (λ (x : Float). covered_of e x ∷ bytes_of e x (replicate m f0 ++ r)) s ∙ ap (λ (t : List ℕ). covered_of e w ∷ t) (bytes_zeros e w m r s)

pub covered_zero : (e : Bool) → covered_of e f0 ≡ 0
unfolding covered_of share_of abs_of min_of is_nan of_bits of_fields lt rem mul add sub sum round units odd size span climb to_unsigned eq count_trailing_zeros
covered_zero true = refl
covered_zero false = refl

-- ---- a row, from a cell on

abbrev line_at : Bool → ℕ → Float → List ℕ → Cells → List ℕ
line_at e k w line cells = take k line ++ add_bytes (drop k line) (bytes_of e w (drop k cells))

-- past a run
module _ {e : Bool} {line : List ℕ} {cells : Cells} {run : Run} (r : Reached e line cells run)
    (to : ℕ) (h : run.from ≤ to) (g : to ≤ length line) (z : Blank cells run.from to) where
  abbrev from : ℕ
  from = run.from

  abbrev byte : ℕ
  byte = covered_of e run.winding

  abbrev part : List ℕ
  part = map (plus_of byte) (take (to - from) (drop from line))

  abbrev behind : List ℕ
  behind = drop (to - from) (drop from line)

  front : length (take from line ++ part) ≡ to
  front = simp (length-append, length-map, length-take, length-drop) (omega arith)

  blank : drop from cells ≡ replicate (to - from) f0 ++ drop to cells
  blank =
      let s = r.same in
      let b : from + (to - from) ≡ to = omega arith in
      zeros (to - from) from cells (omega arith) (λ i p q l. z i p (omega arith) l) ∙ ap (λ (j : ℕ). replicate (to - from) f0 ++ drop j cells) b

  filled : filled_of from to run.coverage line ≡ (take from line ++ part) ++ behind
  filled = rw r.byte (sym (append_assoc (take from line) part behind))

  pub past_run : line_from e line cells run ≡ line_at e to run.winding (filled_of from to run.coverage line) cells
  past_run =
      let d : to - from ≤ length (drop from line) = simp length-drop (omega arith) in
      let bytes = bytes_of e run.winding (drop to cells) in
      ap (λ (r : Cells). take from line ++ add_bytes (drop from line) (bytes_of e run.winding r)) blank
      ∙ ap (λ (r : List ℕ). take from line ++ add_bytes (drop from line) r) (bytes_zeros e run.winding (to - from) (drop to cells) r.steady)
      ∙ ap (λ (r : List ℕ). take from line ++ r) (add_run (to - from) byte bytes (drop from line) d)
      ∙ sym (append_assoc (take from line) part (add_bytes behind bytes))
      ∙ sym (rw (filled, take_at (take from line ++ part) behind to front, drop_at (take from line ++ part) behind to front) refl)

  filled_length : length (filled_of from to run.coverage line) ≡ length line
  filled_length = simp (length-append, length-map, length-take, length-drop) (omega arith)

-- past a touched cell
module _ (e : Bool) (line : List ℕ) (cells : Cells) (same : length line ≡ length cells) (w : Float) (cell : ℕ) (h : cell < length line) where
  abbrev next : Float
  next = w ⊕ get_or cells cell nan

  abbrev more : ℕ
  more = plus_of (covered_of e next) (get_or line cell 0)

  past_cell : line_at e cell w line cells ≡ line_at e (cell + 1) next (set line cell more) (set cells cell f0)
  unfolding bytes_of add_bytes
  past_cell =
      let others : List ℕ = add_bytes (drop (suc cell) line) (bytes_of e next (drop (suc cell) cells)) in
      rw (add-one, drop-cons line cell 0 h, drop-cons cells cell nan (omega arith), take-suc-set line cell more h)
      (rw (drop-set-lt (suc cell) line cell more (omega arith), drop-set-lt (suc cell) cells cell f0 (omega arith))
      (sym (append_assoc (take cell line) (more ∷ []) others)))

finished : (e : Bool) (k : ℕ) (line : List ℕ) (cells : Cells) (w : Float) → length line ≤ k → line_at e k w line cells ≡ line
unfolding add_bytes
finished e k line cells w h = rw (drop_of_length-le line h, take_all k line h) (append-nil line)

-- ---- a run and the touched cell behind it

module _ {e : Bool} {line : List ℕ} {cells : Cells} {run : Run} (r : Reached e line cells run)
    (cell : ℕ) (h : run.from ≤ cell) (g : cell < length cells) (z : Blank cells run.from cell)
    {filled : List ℕ} (is : filled ≡ filled_of run.from cell run.coverage line) where
  abbrev winding : Float
  winding = run.winding ⊕ get_or cells cell nan

  in_line : cell ≤ length line
  in_line = let s = r.same in omega arith

  pub cell_in_line : length filled ≡ length cells
  cell_in_line = ap length is ∙ filled_length r cell h in_line z ∙ r.same

  pub cell_moved : {coverage v : ℕ} → T (fits binary32 (get_or cells cell nan)) → coverage ≡ covered_of e winding → v ≡ plus_of coverage (get_or filled cell 0)
      → Moved e line cells run (set filled cell v) (set cells cell f0) (record { from = cell + 1; winding = winding; coverage = coverage })
  cell_moved {coverage} {v} t c p =
      let l = cell_in_line in
      let ls : length (set filled cell v) ≡ length cells = length-set filled cell v ∙ l in
      let byte : v ≡ plus_of (covered_of e winding) (get_or filled cell 0) = p ∙ ap (λ (b : ℕ). plus_of b (get_or filled cell 0)) c in
      record {
        reached = record {
          same = ls ∙ sym (length-set cells cell f0);
          within = omega arith;
          steady = steady_more run.winding (get_or cells cell nan) t r.steady;
          byte = c;
        };
        line_same = past_run r cell h in_line z ∙ ap (λ (x : List ℕ). line_at e cell run.winding x cells) (sym is)
            ∙ past_cell e filled cells l run.winding cell (omega arith)
            ∙ ap (λ (x : ℕ). line_at e (cell + 1) winding (set filled cell x) (set cells cell f0)) (sym byte);
        since = omega arith;
        behind = λ k o. get_or-set_other filled cell k v 0 (λ x. omega arith) ∙ ap (λ (x : List ℕ). get_or x k 0) is
            ∙ filled_past run.from cell run.coverage line k h in_line (omega arith);
      }

-- the last run goes up to the row's end
last_run : {e : Bool} {line : List ℕ} {cells : Cells} {run : Run} → Reached e line cells run → Blank cells 0 (length cells)
    → line_from e line cells run ≡ filled_of run.from (length line) run.coverage line
last_run {e} {line} {cells} {run} r z =
    let l = r.within in
    let blank : Blank cells run.from (length line) = λ c p q g. z c (omega arith) g g in
    let f = filled_length r (length line) l (omega arith) blank in
    past_run r (length line) l (omega arith) blank
    ∙ finished e (length line) (filled_of run.from (length line) run.coverage line) cells run.winding (omega arith)

pub swept : {e : Bool} {l₀ line : List ℕ} {c₀ cells : Cells} {r₀ run : Run} → Moved e l₀ c₀ r₀ line cells run → Blank cells 0 (length cells)
    → {after : List ℕ} → after ≡ filled_of run.from (length line) run.coverage line → after ≡ line_from e l₀ c₀ r₀
swept m z h = h ∙ sym (m.line_same ∙ last_run m.reached z)

-- a row that holds no area adds nothing
pub no_area : (e : Bool) (line : List ℕ) (n : ℕ) → length line ≡ n → ((i : ℕ) → get_or line i 0 < 256) → add_bytes line (bytes_of e f0 (replicate n f0)) ≡ line
unfolding bytes_of add_bytes
no_area e line n h small =
    let l : length line ≤ n = omega arith in
    ap (λ (r : Cells). add_bytes line (bytes_of e f0 r)) (sym (append-nil (replicate n f0)))
    ∙ ap (add_bytes line) (bytes_zeros e f0 n [] steady_zero)
    ∙ add_run n (covered_of e f0) [] line (omega arith)
    ∙ ap (λ (b : ℕ). map (plus_of b) (take n line) ++ add_bytes (drop n line) []) (covered_zero e)
    ∙ rw (take_all n line l, drop_of_length-le line l) (append-nil (map (plus_of 0) line) ∙ sym (unchanged line small))

-- ---- cleared cells

pub all_zero : (l : Cells) → Blank l 0 (length l) → l ≡ replicate (length l) f0
all_zero [] z = refl
all_zero (x ∷ l) z =
    ap (λ (y : Float). y ∷ l) (z 0 (omega arith) (omega arith) (omega arith))
    ∙ ap (λ (t : Cells). f0 ∷ t) (all_zero l (λ c p q h. z (suc c) (omega arith) (omega arith) (omega arith)))
