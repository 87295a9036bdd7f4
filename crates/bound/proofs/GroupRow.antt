-- A group in a row: its bytes, from what is known of each edge that crosses the row, and the number of edges that count
-- for a cell. Assumes nothing.
use mathlib.Core.Path.{◌≡◌, refl, sym, ap, ◌∙◌, subst}
use mathlib.Core.List.{List, [], ◌∷◌, ◌++◌, map}
use mathlib.Core.Bool.{Bool, true, false, not, cond, ◌&&◌}
use Prim.Native.Nat.{ℕ, suc, ◌+◌, ◌≤◌, ◌<◌}
use native.Mathlib.Omega.{arith}
use lib.Dec.{T}
use lib.ListN.{length, get_or, replicate, length-replicate, get_or-replicate}
use lib.Ieee.{Float, nan}
use Rattle.fraction.specs.Fraction.{Fraction, ◌≈ᶠ◌, natᶠ, ◌/2^◌, ◌+ᶠ◌, ◌*ᶠ◌, Near}
use Rattle.fraction.proofs.Linear.{at_eq, eq_at, add_at, over}
use Rattle.fraction.proofs.Order.{refl≈, sym≈, trans≈}
use Rattle.fraction.proofs.Ring.{cong_add}
use Rattle.rounding.proofs.Round.{near_to}
use Rattle.word_list.specs.Words.{Group, even_odd, points_of}
use Rattle.word_list.specs.Writer.{ContoursInLimit}
use Rattle.winding.specs.Winding.{exact_edges, exact_part, mean_winding, crosses, group_share}
use Rattle.winding.proofs.Crosses.{no_part}
use Rattle.float.specs.Ops.{◌⊕◌, f0}
use Rattle.whole.specs.Whole.{of_whole}
use Rattle.accumulation.specs.Area.{Cells}
use Rattle.sweep.specs.Bytes.{bytes_of, covered_of}
use Rattle.edge.specs.declared.Edge.{Edge}
use Rattle.active_edges.specs.Active.{active_edges, piece_of, pieces_of}
use Rattle.cells.specs.declared.Size.{Size}
use Rattle.cells.specs.Cells.{SizeAllowed}
use Rattle.coverage.specs.Drawing.{edges_row, group_row}
use Rattle.bound.specs.Counted.{reaches, count_at}
use Rattle.bound.proofs.Entries.{Entry, pick, number, number_le, sum_over, added, added_length, added_get, added_append, area}
use Rattle.bound.proofs.WindingSum.{wind, bytes_wind}
use Rattle.bound.proofs.RowSum.{flat, All, row_near}
use Rattle.bound.proofs.Byte.{group_near}
use Rattle.bound.proofs.Edges.{WordEdge, EdgeInLimit, word_edges, exact_of, edges_exact, float_of, spread, edges_float, edges_in_limit}
use Rattle.bound.proofs.Edges.{is_active, actives, actives_is, Every, every_map, every_active, sum_same, active_sum}
use Rattle.bound.proofs.Active.{active_is}
use Rattle.bound.proofs.Piece.{entries_of, EdgeFacts, RowIn, edge_facts}

-- ---- lengths and cells of a row
bytes_length : (eo : Bool) (w : Float) (cells : Cells) → length (bytes_of eo w cells) ≡ length cells
unfolding bytes_of
bytes_length eo w [] = refl
bytes_length eo w (a ∷ cells) = ap suc (bytes_length eo (w ⊕ a) cells)

pieces_append : (fh ft fb : Float) (cells : Cells) (l m : List Edge) → pieces_of fh ft fb cells (l ++ m) ≡ pieces_of fh ft fb (pieces_of fh ft fb cells l) m
unfolding pieces_of
pieces_append fh ft fb cells [] m = refl
pieces_append fh ft fb cells (e ∷ l) m = pieces_append fh ft fb (piece_of fh ft fb cells e) l m

module _ (w h row : ℕ) where
  pieces_all : (rs : List WordEdge) → Every (EdgeFacts w h row) rs → (cells : Cells) → length cells ≡ w
      → pieces_of (of_whole h) (of_whole row) (of_whole (suc row)) cells (spread (float_of h) rs) ≡ added cells (flat (entries_of w h row) rs)
  unfolding pieces_of added
  pieces_all [] k cells e = refl
  pieces_all (r ∷ rs) k cells e =
      pieces_append (of_whole h) (of_whole row) (of_whole (suc row)) cells (float_of h r) (spread (float_of h) rs)
      ∙ ap (λ (z : Cells). pieces_of (of_whole h) (of_whole row) (of_whole (suc row)) z (spread (float_of h) rs)) (k.0.pieces cells e)
      ∙ pieces_all rs k.1 (added cells (entries_of w h row r)) (added_length cells (entries_of w h row r) ∙ e)
      ∙ sym (added_append cells (entries_of w h row r) (flat (entries_of w h row) rs))

-- ---- counts and sums over a group's edges, by those that cross the row
number_sum : (t : WordEdge → Bool) (l : List WordEdge) → sum_over (λ r. pick (t r) (natᶠ 1)) l ≈ᶠ natᶠ (number t l)
number_sum t [] = refl≈ (natᶠ 0)
number_sum t (r ∷ l) = go (t r) (sum_over (λ r. pick (t r) (natᶠ 1)) l) (number_sum t l)
  where
    go : (b : Bool) (x : Fraction) → x ≈ᶠ natᶠ (number t l) → pick b (natᶠ 1) +ᶠ x ≈ᶠ natᶠ (cond b 1 0 + number t l)
    go true x i = over (x ∷ natᶠ (number t l) ∷ natᶠ (1 + number t l) ∷ natᶠ 1 ∷ []) (λ N n A C S I. eq_at N (add_at N I A) S n (omega (arith, C.is, S.is, I.is, at_eq N A C i)))
    go false x i = over (x ∷ natᶠ (number t l) ∷ natᶠ (0 + number t l) ∷ natᶠ 0 ∷ []) (λ N n A C S I. eq_at N (add_at N I A) S n (omega (arith, C.is, S.is, I.is, at_eq N A C i)))

pick_and : (a b : Bool) (x : Fraction) → pick a (pick b x) ≈ᶠ pick (a && b) x
pick_and true b x = refl≈ (pick b x)
pick_and false b x = refl≈ (natᶠ 0)

number_active : (h row : ℕ) (t : WordEdge → Bool) (rs : List WordEdge) → number t (actives h rs row) ≡ number (λ r. is_active h row r && t r) rs
number_active h row t rs =
    let a = active_sum h row (λ r. pick (t r) (natᶠ 1)) rs in
    let b = sum_same (λ r. pick (is_active h row r) (pick (t r) (natᶠ 1))) (λ r. pick (is_active h row r && t r) (natᶠ 1)) rs (λ r. pick_and (is_active h row r) (t r) (natᶠ 1)) in
    let e = trans≈ (sym≈ (number_sum t (actives h rs row))) (trans≈ a (trans≈ b (number_sum (λ r. is_active h row r && t r) rs))) in
    omega (arith, e.eq)

all_number : (l : List WordEdge) → number (λ r. true) l ≡ length l
all_number [] = refl
all_number (r ∷ l) = omega (arith, all_number l)

-- an edge is active in a row exactly where it crosses it
abbrev ActiveAsCrosses : ℕ → ℕ → List WordEdge → Type 0
ActiveAsCrosses h row rs = Every (λ r. is_active h row r ≡ crosses (exact_of r) row) rs

count_is : (h row c : ℕ) (rs : List WordEdge) → ActiveAsCrosses h row rs → number (λ r. is_active h row r && reaches (exact_of r) c row) rs ≡ count_at (map exact_of rs) c row
count_is h row c [] k = refl
count_is h row c (r ∷ rs) k =
    ap (λ (b : Bool). cond (b && reaches (exact_of r) c row) 1 0 + number (λ r. is_active h row r && reaches (exact_of r) c row) rs) k.0
    ∙ ap (λ (n : ℕ). cond (crosses (exact_of r) row && reaches (exact_of r) c row) 1 0 + n) (count_is h row c rs k.1)

-- an edge that does not cross the row has no part in it, so the sum over the active ones is the mean winding
mean_is : (c row h : ℕ) (rs : List WordEdge) → ActiveAsCrosses h row rs → sum_over (λ r. pick (is_active h row r) (exact_part (exact_of r) c row)) rs ≈ᶠ mean_winding (map exact_of rs) c row
unfolding mean_winding
mean_is c row h [] k = refl≈ (natᶠ 0)
mean_is c row h (r ∷ rs) k = cong_add (go (is_active h row r) (λ t. no_part (exact_of r) row c (subst (λ (z : Bool). T (not z)) k.0 t))) (mean_is c row h rs k.1)
  where
    go : (b : Bool) → (T (not b) → exact_part (exact_of r) c row ≈ᶠ natᶠ 0) → pick b (exact_part (exact_of r) c row) ≈ᶠ exact_part (exact_of r) c row
    go true f = refl≈ (exact_part (exact_of r) c row)
    go false f = sym≈ (f tt)

-- ---- what is shown of a group in a row
pub record GroupOk (size : Size) (row : ℕ) (g : Group) : Type 0 where
  pub wide : length (group_row size g row) ≡ size.width
  pub near : (c : ℕ) → c < size.width → Near (natᶠ (get_or (group_row size g row) c 0)) (natᶠ 255 *ᶠ group_share g c row) (natᶠ (count_at (exact_edges g.contours) c row) +ᶠ 1 /2^ 1)

-- ---- THE GROUP IN A ROW
module _ (size : Size) (row : ℕ) (g : Group) (allowed : SizeAllowed size) (l : row < size.height) (close : ContoursInLimit g.contours) (few : points_of g.contours ≤ 2048) where
  abbrev w : ℕ
  w = size.width

  abbrev h : ℕ
  h = size.height

  abbrev rs : List WordEdge
  rs = word_edges g.contours

  acts : ActiveAsCrosses h row rs
  acts = every_map EdgeInLimit (λ r. is_active h row r ≡ crosses (exact_of r) row) rs (λ r m. active_is h row r allowed.1 l m) (edges_in_limit g.contours close).0

  facts : Every (EdgeFacts w h row) (actives h rs row)
  facts =
      let in-mask : RowIn w h row = record { narrow = allowed.0; low = allowed.1; inside = l } in
      every_active h row (EdgeFacts w h row) rs
      (every_map EdgeInLimit (λ r. T (is_active h row r) → EdgeFacts w h row r) rs (λ r m t. edge_facts w h row r in-mask m (subst T (active_is h row r allowed.1 l m) t))
      (edges_in_limit g.contours close).0)

  abbrev es : List Entry
  es = flat (entries_of w h row) (actives h rs row)

  abbrev cells : Cells
  cells = added (replicate w f0) es

  row_is : group_row size g row ≡ bytes_of (even_odd g) f0 cells
  unfolding group_row edges_row
  row_is =
      ap (λ (z : List Edge). bytes_of (even_odd g) f0 (pieces_of (of_whole h) (of_whole row) (of_whole (suc row)) (replicate w f0) (active_edges z row))) (edges_float h g.contours)
      ∙ ap (λ (z : List Edge). bytes_of (even_odd g) f0 (pieces_of (of_whole h) (of_whole row) (of_whole (suc row)) (replicate w f0) z)) (actives_is h rs row)
      ∙ ap (λ (z : Cells). bytes_of (even_odd g) f0 z) (pieces_all w h row (actives h rs row) facts (replicate w f0) (length-replicate w f0))

  cells_length : length cells ≡ w
  cells_length = added_length (replicate w f0) es ∙ length-replicate w f0

  row_wide : length (group_row size g row) ≡ w
  row_wide = ap length row_is ∙ bytes_length (even_odd g) f0 cells ∙ cells_length

  abbrev winding : ℕ → Float
  winding c = wind (λ i. area i f0 es) (suc c)

  byte_is : (c : ℕ) → c < w → get_or (group_row size g row) c 0 ≡ covered_of (even_odd g) (winding c)
  byte_is c k =
      let z : 0 + c ≡ c = omega arith in
      ap (λ (b : List ℕ). get_or b c 0) row_is ∙ bytes_wind (even_odd g) (λ i. area i f0 es) cells 0 c (omega (arith, cells_length)) held ∙ ap (λ (n : ℕ). covered_of (even_odd g) (winding n)) z
    where
      held : (i : ℕ) → i < length cells → get_or cells i nan ≡ area (0 + i) f0 es
      held i k =
          let z : i ≡ 0 + i = omega arith in
          added_get (replicate w f0) es i (omega (arith, length-replicate w f0, cells_length))
          ∙ ap (λ (a : Float). area i a es) (get_or-replicate w i f0 nan (omega (arith, cells_length))) ∙ ap (λ (n : ℕ). area n f0 es) z

  few_active : length (actives h rs row) ≤ 2048
  few_active =
      let a = all_number (actives h rs row) in
      let b = number_active h row (λ r. true) rs in
      let c = number_le (λ r. is_active h row r && true) rs in
      let d = (edges_in_limit g.contours close).1 in
      omega (arith, a, b, c, d, few)

  goods : (c : ℕ) → c < w → (l : List WordEdge) → Every (EdgeFacts w h row) l → All (entries_of w h row) (λ r. reaches (exact_of r) c row) (λ r. exact_part (exact_of r) c row) (suc c) l
  goods c k [] f = tt
  goods c k (r ∷ l) f = (record { fine = f.0.fine; twice = f.0.twice; size = f.0.size; near = f.0.near c k; away = f.0.away c }, goods c k l f.1)

  cell_near : (c : ℕ) → c < w → Near (natᶠ (get_or (group_row size g row) c 0)) (natᶠ 255 *ᶠ group_share g c row) (natᶠ (count_at (exact_edges g.contours) c row) +ᶠ 1 /2^ 1)
  cell_near c k =
      let good = goods c k (actives h rs row) facts in
      let R = row_near (entries_of w h row) (λ r. reaches (exact_of r) c row) (λ r. exact_part (exact_of r) c row) (suc c) (actives h rs row) good few_active (omega arith) in
      let X = trans≈ (active_sum h row (λ r. exact_part (exact_of r) c row) rs) (mean_is c row h rs acts) in
      let n = number_active h row (λ r. reaches (exact_of r) c row) rs ∙ count_is h row c rs acts in
      let G = group_near (even_odd g) (record { fine = R.fine; held = R.held; near = near_to X R.near; size = R.size }) in
      rw (byte_is c k, edges_exact g.contours, ← n) G

  pub group_ok : GroupOk size row g
  group_ok = record { wide = row_wide; near = cell_near }
