-- The edge lemma: the piece of an edge in a row that it crosses is one span, of an exact signed height between two
-- places; its entries are near the edge's exact part in each cell, and none lies left of where the edge is. Assumes
-- nothing.
use mathlib.Core.Path.{◌≡◌, refl, sym, ap, ◌∙◌, subst}
use mathlib.Core.Logic.{◌⊎◌, inl, inr}
use mathlib.Core.List.{List, [], ◌∷◌}
use mathlib.Core.Bool.{Bool, true, false, not, cond, ◌||◌}
use Prim.Native.Nat.{ℕ, suc, ◌*◌, ◌^◌, ◌≤◌, ◌<◌}
use native.Mathlib.Omega.{arith}
use lib.Dec.{T, lit≤}
use lib.ListN.{length}
use lib.Ieee.{Float, binary32, lt, eq}
use lib.Ieee.Fits.{mul-fits, neg-fits}
use Rattle.fraction.specs.Whole.{natʷ, negʷ, sizeʷ, ◌-ʷ◌, ◌*ʷ◌, ◌≤ʷ◌}
use Rattle.fraction.specs.Fraction.{Fraction, ◌≤ᶠ◌, ◌<ᶠ◌, ◌≈ᶠ◌, ltᵇ, natᶠ, ◌+ᶠ◌, ◌-ᶠ◌, ◌*ᶠ◌, negᶠ, minᶠ, Near, Within}
use Rattle.fraction.proofs.Linear.{At, at_le, at_eq, at_same, le_at, eq_at, add_at, sub_at, neg_at, over, lit, trans, lit<ᶠ}
use Rattle.fraction.proofs.Order.{of_eq, of_lt, refl≤, refl≈, sym≈, trans≈, antisym, add_mono, mul_comm, mul_cong, mul_neg, mul_one, zero_mul, le_or_lt, lt_not_le, le_lt, lt_le, sub_nonneg, nat_le}
use Rattle.fraction.proofs.Near.{near_trans, near_weaken, near_by, within_weaken, within_self, within_same, abs_of_within}
use Rattle.fraction.proofs.Clamp.{min_at, max_at, max_ge_left, max_ge_right, min_le_left, min_le_right, no≤}
use Rattle.fraction.proofs.Ring.{cong_mul}
use Rattle.rounding.specs.Value.{val}
use Rattle.rounding.proofs.Round.{near_to}
use Rattle.rounding.proofs.Ops.{val_neg, finite_neg}
use Rattle.rounding.proofs.Exactly.{mul_exact}
use Rattle.word_list.specs.Words.{Point}
use Rattle.winding.specs.Winding.{exact_coordinate, exact_point, exact_part, crossing, crosses}
use Rattle.winding.proofs.MeanOf.{G}
use Rattle.winding.proofs.Cells.{G-near, G-right}
use Rattle.winding.proofs.Part.{top, bottom, share, part_down_is, part_up_is, height_le}
use Rattle.winding.proofs.Crosses.{crosses_yes, crosses_down, crosses_up, of_less}
use Rattle.float.specs.Ops.{◌⊖◌, ◌⊗◌, f1, f_minus_1}
use Rattle.float.specs.Simple.{min_of, max_of}
use Rattle.whole.specs.Whole.{of_whole}
use Rattle.accumulation.specs.Area.{Cells}
use Rattle.edge.specs.declared.Edge.{Edge}
use Rattle.edge.specs.Edges.{sloped_of, edge_between, at_of}
use Rattle.active_edges.specs.Active.{piece_of, pieces_of}
use Rattle.contour.specs.Contours.{coordinate_of}
use Rattle.bound.specs.Counted.{left_of, reaches}
use Rattle.bound.proofs.Entries.{Entry, Fine, From, added, tally, count, worth, size, here, before, anywhere, prefix, total}
use Rattle.bound.proofs.Model.{span_e, span_is}
use Rattle.bound.proofs.Adds.{Adds, span_error, span_excess, place_error, edge_error, mass}
use Rattle.bound.proofs.Numbers.{Num, Exact, exact_same, one_is, whole_is, lt_yes, lt_do, eq_yes, min_is, max_is}
use Rattle.bound.proofs.Span.{span_adds}
use Rattle.bound.proofs.Edges.{WordEdge, EdgeInLimit, exact_of, float_of}
use Rattle.bound.proofs.Active.{coordinate_is, kept}
use Rattle.bound.proofs.Place.{coordinate_at, nat_at, difference, edge_from, Downward, place}

-- ---- a sign: negative where s is true
abbrev pub turn : Bool → Fraction → Fraction
turn true x = negᶠ x
turn false x = x

abbrev pub way : Bool → Float
way true = f_minus_1
way false = f1

way_is : (s : Bool) → Exact (turn s (natᶠ 1)) (way s)
way_is false = one_is
way_is true = record {
  fine = finite_neg f1 one_is.fine;
  held = neg-fits binary32 f1 one_is.held;
  eq = trans≈ (val_neg f1) (over (val f1 ∷ natᶠ 1 ∷ []) (λ N n F I. eq_at N (neg_at N F) (neg_at N I) n (omega (arith, at_eq N F I one_is.eq))));
}

one_at : (s : Bool) → At 1 (turn s (natᶠ 1))
unfolding negᶠ
one_at false = record { z = natʷ 1; is = omega arith }
one_at true = record { z = negʷ (natʷ 1); is = omega arith }

turn_one : (s : Bool) (x : Fraction) → x *ᶠ turn s (natᶠ 1) ≈ᶠ turn s x
turn_one false x = mul_one x
turn_one true x = trans≈ (mul_neg x (natᶠ 1)) (over (x *ᶠ natᶠ 1 ∷ x ∷ []) (λ N n A B. eq_at N (neg_at N A) (neg_at N B) n (omega (arith, at_eq N A B (mul_one x)))))

turn_mul : (s : Bool) (x y : Fraction) → turn s x *ᶠ y ≈ᶠ turn s (x *ᶠ y)
turn_mul false x y = refl≈ (x *ᶠ y)
turn_mul true x y = trans≈ (mul_comm (negᶠ x) y) (trans≈ (mul_neg y x) (over (x *ᶠ y ∷ y *ᶠ x ∷ []) (λ N n A B. eq_at N (neg_at N B) (neg_at N A) n (omega (arith, at_eq N A B (mul_comm x y))))))

turn_within : (s : Bool) {x b : Fraction} → Within x b → Within (turn s x) b
turn_within false h = h
turn_within true {x} {b} h = over (x ∷ b ∷ []) (λ N n X B. record {
  lo = le_at N (neg_at N B) (neg_at N X) n (omega (arith, at_le N X B h.hi));
  hi = le_at N (neg_at N X) B n (omega (arith, at_le N (neg_at N B) X h.lo));
})

turn_none : (s : Bool) {x : Fraction} → x ≈ᶠ natᶠ 0 → turn s x ≈ᶠ natᶠ 0
turn_none false h = h
turn_none true {x} h = over (x ∷ natᶠ 0 ∷ []) (λ N n X O. eq_at N (neg_at N X) O n (omega (arith, O.is, at_eq N X O h)))

-- ---- the heights of an edge's piece in a row, as the engine has them
abbrev top_f : Point → ℕ → Float
top_f u row = max_of (coordinate_of u.y) (of_whole row)

abbrev end_f : Point → ℕ → ℕ → Float
end_f v h row = min_of (min_of (of_whole (suc row)) (coordinate_of v.y)) (of_whole h)

-- the entries of a piece: those of its span
abbrev on_edge : ℕ → ℕ → ℕ → List Edge → List Entry
on_edge w h row [] = []
on_edge w h row (e ∷ es) =
    let y = max_of e.y (of_whole row) in
    let next = min_of (min_of (of_whole (suc row)) e.bottom) (of_whole h) in
    span_e w 3 (at_of e y) (at_of e next) ((next ⊖ y) ⊗ e.down)

abbrev pub entries_of : ℕ → ℕ → ℕ → WordEdge → List Entry
entries_of w h row r = on_edge w h row (float_of h r)

-- ---- WHAT IS SHOWN of an edge that crosses a row
pub record EdgeFacts (w h row : ℕ) (r : WordEdge) : Type 0 where
  pub pieces : (cells : Cells) → length cells ≡ w → pieces_of (of_whole h) (of_whole row) (of_whole (suc row)) cells (float_of h r) ≡ added cells (entries_of w h row r)
  pub fine : Fine (entries_of w h row r)
  pub twice : (i : ℕ) → count (here i) (entries_of w h row r) ≤ 2
  pub size : tally size anywhere (entries_of w h row r) ≤ᶠ mass
  pub near : (c : ℕ) → c < w → Near (tally worth (before (suc c)) (entries_of w h row r)) (exact_part (exact_of r) c row) edge_error
  pub away : (c : ℕ) → T (not (reaches (exact_of r) c row)) → From (suc c) (entries_of w h row r) × (exact_part (exact_of r) c row ≈ᶠ natᶠ 0)

-- a row of a mask
pub record RowIn (w h row : ℕ) : Type 0 where
  pub narrow : w ≤ 4096
  pub low : h ≤ 4096
  pub inside : row < h

-- ---- from its upper end to its lower one
module _ (w h row : ℕ) (u v : Point) (s : Bool) (in-mask : RowIn w h row) (edge : Downward u v) (cuts : top (exact_point u) row <ᶠ bottom (exact_point v) row) where
  abbrev P : Fraction
  P = top (exact_point u) row

  abbrev Q : Fraction
  Q = bottom (exact_point v) row

  P-is : Exact P (top_f u row)
  P-is = max_is (coordinate_is u.y edge.upper.1) (whole_is row (omega arith))

  Q-is : Exact Q (end_f v h row)
  Q-is = exact_same same (min_is (min_is (whole_is (suc row) (omega arith)) (coordinate_is v.y edge.lower.1)) (whole_is h (omega arith)))
    where
      same : minᶠ (minᶠ (natᶠ (suc row)) (exact_coordinate v.y)) (natᶠ h) ≈ᶠ Q
      same = over (natᶠ (suc row) ∷ exact_coordinate v.y ∷ natᶠ h ∷ []) (λ N n S B C.
          eq_at N (min_at N n (min_at N n S B) C) (min_at N n B S) n (omega (arith, at_le N S C (nat_le {m = suc row} {n = h} in-mask.inside))))

  P-at : At 256 P
  P-at = max_at 256 (lit≤ tt) (coordinate_at u.y) (nat_at row)

  Q-at : At 256 Q
  Q-at = min_at 256 (lit≤ tt) (coordinate_at v.y) (nat_at (suc row))

  -- ---- the signed height: exact, and at most 1
  height_within : Within (Q -ᶠ P) (natᶠ 1)
  height_within = within_weaken (within_self (sub_nonneg (of_lt cuts))) (height_le (exact_point u) (exact_point v) row)

  D-is : Exact (Q -ᶠ P) (end_f v h row ⊖ top_f u row)
  D-is = difference Q-is P-is Q-at P-at (small (at_le 256 P-at Q-at (of_lt cuts)) (at_le 256 (sub_at 256 Q-at P-at) (nat_at 1) (height_le (exact_point u) (exact_point v) row)))
    where
      small : P-at.z ≤ʷ Q-at.z → Q-at.z -ʷ P-at.z ≤ʷ natʷ (1 * 256) → sizeʷ (Q-at.z -ʷ P-at.z) < 2 ^ 24
      small a b = omega (arith, a, b, lit≤ {m = 257} {n = 2 ^ 24} tt)

  abbrev a : Float
  a = (end_f v h row ⊖ top_f u row) ⊗ way s

  area_is : Exact (turn s (Q -ᶠ P)) a
  unfolding one_at
  area_is =
      let Z = at_same 256 (sym≈ D-is.eq) (sub_at 256 Q-at P-at) in
      let M = mul_exact binary32 8 0 (end_f v h row ⊖ top_f u row) (way s) D-is.fine (way_is s).fine (lit≤ tt) Z (at_same 1 (sym≈ (way_is s).eq) (one_at s)) (small s) in
      record { fine = M.fine; held = mul-fits binary32 (end_f v h row ⊖ top_f u row) (way s); eq = trans≈ M.eq (trans≈ (cong_mul D-is.eq (way_is s).eq) (turn_one s (Q -ᶠ P))) }
    where
      small : (s : Bool) → sizeʷ ((Q-at.z -ʷ P-at.z) *ʷ (one_at s).z) < 2 ^ 24
      small true = omega (arith, at_le 256 P-at Q-at (of_lt cuts), at_le 256 (sub_at 256 Q-at P-at) (nat_at 1) (height_le (exact_point u) (exact_point v) row), lit≤ {m = 257} {n = 2 ^ 24} tt)
      small false = omega (arith, at_le 256 P-at Q-at (of_lt cuts), at_le 256 (sub_at 256 Q-at P-at) (nat_at 1) (height_le (exact_point u) (exact_point v) row), lit≤ {m = 257} {n = 2 ^ 24} tt)

  area_within : Within (val a) (natᶠ 1)
  area_within = within_same (sym≈ area_is.eq) (turn_within s height_within)

  -- ---- the two places
  abbrev xp : Float
  xp = at_of (edge_from u v (way s)) (top_f u row)

  abbrev xq : Float
  xq = at_of (edge_from u v (way s)) (end_f v h row)

  abbrev Xp : Fraction
  Xp = crossing (exact_point u) (exact_point v) P

  abbrev Xq : Fraction
  Xq = crossing (exact_point u) (exact_point v) Q

  at_top : Num xp (natᶠ 4097) × Near (val xp) Xp place_error
  at_top = place u v (way s) (top_f u row) P edge P-is P-at (max_ge_left (exact_coordinate u.y) (natᶠ row)) (trans (of_lt cuts) (min_le_left (exact_coordinate v.y) (natᶠ (suc row))))

  at_end : Num xq (natᶠ 4097) × Near (val xq) Xq place_error
  at_end = place u v (way s) (end_f v h row) Q edge Q-is Q-at (trans (max_ge_left (exact_coordinate u.y) (natᶠ row)) (of_lt cuts)) (min_le_left (exact_coordinate v.y) (natᶠ (suc row)))

  -- ---- what is added
  abbrev L : List Entry
  L = span_e w 3 xp xq a

  adds : Adds w 2 L (val xp) (val xq) (val a) span_error span_excess
  adds = span_adds w in-mask.narrow 0 xp xq a at_top.0 at_end.0 (record { fine = area_is.fine; held = area_is.held; within = area_within })

  size_le : tally size anywhere L ≤ᶠ mass
  unfolding total
  size_le = trans adds.size (trans (add_mono (abs_of_within area_within) (refl≤ span_excess)) (unfold ◌+ᶠ◌ in lit tt))

  exact : (c : ℕ) → val a *ᶠ G c Xp Xq ≈ᶠ turn s (share (exact_point u) (exact_point v) c row)
  exact c = trans≈ (cong_mul area_is.eq (refl≈ (G c Xp Xq))) (turn_mul s (Q -ᶠ P) (G c Xp Xq))

  entries_near : (c : ℕ) → c < w → Near (tally worth (before (suc c)) L) (turn s (share (exact_point u) (exact_point v) c row)) edge_error
  unfolding prefix
  entries_near c k = near_to (exact c) (near_weaken (near_trans (adds.near c k) (near_by (G-near c at_top.1 at_end.1) area_within)) (unfold ◌+ᶠ◌ ◌*ᶠ◌ in lit tt))

  -- ---- an edge two columns further right adds nothing here, and has no part
  beyond : (c : ℕ) {x X : Fraction} → natᶠ (suc (suc c)) ≤ᶠ X → Near x X place_error → natᶠ (suc c) ≤ᶠ x
  beyond c {x} {X} m n = over (natᶠ (suc c) ∷ natᶠ (suc (suc c)) ∷ x ∷ X ∷ place_error ∷ []) (λ N p C D A B E.
      le_at N C A p (omega (arith, C.is, D.is, E.is, at_le N D B m, at_le N B (add_at N A E) n.lo)))

  right_of : (c : ℕ) → T (not (left_of (exact_point u) (exact_point v) c row)) → (natᶠ (suc (suc c)) ≤ᶠ Xp) × (natᶠ (suc (suc c)) ≤ᶠ Xq)
  right_of c t = go (ltᵇ Xp (natᶠ (suc (suc c)))) (ltᵇ Xq (natᶠ (suc (suc c)))) (no≤ Xp (natᶠ (suc (suc c)))) (no≤ Xq (natᶠ (suc (suc c)))) t
    where
      go : (x y : Bool) → (T (not x) → natᶠ (suc (suc c)) ≤ᶠ Xp) → (T (not y) → natᶠ (suc (suc c)) ≤ᶠ Xq) → T (not (x || y)) → (natᶠ (suc (suc c)) ≤ᶠ Xp) × (natᶠ (suc (suc c)) ≤ᶠ Xq)
      go true y f g t = absurd t
      go false true f g t = absurd t
      go false false f g t = (f tt, g tt)

  nothing : (c : ℕ) → T (not (left_of (exact_point u) (exact_point v) c row)) → From (suc c) L × (turn s (share (exact_point u) (exact_point v) c row) ≈ᶠ natᶠ 0)
  nothing c t =
      let k = right_of c t in
      let one : natᶠ (suc c) ≤ᶠ natᶠ (suc (suc c)) = nat_le (omega arith) in (
        adds.from (suc c) (beyond c k.0 at_top.1) (beyond c k.1 at_end.1),
        turn_none s (trans≈ (mul_cong (Q -ᶠ P) (G-right c Xp Xq (trans one k.0) (trans one k.1))) (trans≈ (mul_comm (Q -ᶠ P) (natᶠ 0)) (zero_mul (Q -ᶠ P)))),
      )

  piece_is : (cells : Cells) → length cells ≡ w → pieces_of (of_whole h) (of_whole row) (of_whole (suc row)) cells (edge_from u v (way s) ∷ []) ≡ added cells L
  unfolding pieces_of piece_of
  piece_is cells k = span_is 3 w cells xp xq a k

  -- ---- of an edge that the engine has so, and whose part is so
  facts : (r : WordEdge) → float_of h r ≡ edge_from u v (way s) ∷ [] → ((c : ℕ) → exact_part (exact_of r) c row ≈ᶠ turn s (share (exact_point u) (exact_point v) c row))
      → ((c : ℕ) → reaches (exact_of r) c row ≡ left_of (exact_point u) (exact_point v) c row) → EdgeFacts w h row r
  facts r is part same = record {
    pieces = λ cells k.
        ap (λ (es : List Edge). pieces_of (of_whole h) (of_whole row) (of_whole (suc row)) cells es) is ∙ piece_is cells k ∙ ap (λ (es : List Edge). added cells (on_edge w h row es)) (sym is);
    fine = rw is adds.fine;
    twice = λ i. rw is (adds.few i);
    size = rw is size_le;
    near = λ c k. rw is (near_to (sym≈ (part c)) (entries_near c k));
    away = λ c t. let n = nothing c (subst (λ (b : Bool). T (not b)) (same c) t) in (rw is n.0, trans≈ (part c) n.1);
  }

-- ---- EVERY EDGE THAT CROSSES A ROW
module _ (w h row : ℕ) (r : WordEdge) (in-mask : RowIn w h row) (m : EdgeInLimit r) (t : T (crosses (exact_of r) row)) where
  abbrev p : Point
  p = r.«from»

  abbrev q : Point
  q = r.to

  abbrev A : Fraction
  A = exact_coordinate r.«from».y

  abbrev B : Fraction
  B = exact_coordinate r.to.y

  to_eq : {x y : Fraction} → x ≡ y → x ≈ᶠ y
  to_eq {x} {y} e = subst (λ (z : Fraction). x ≈ᶠ z) e (refl≈ x)

  cond_yes : {X : Type 0} (b : Bool) (x y : X) → T b → cond b x y ≡ x
  cond_yes true x y k = refl
  cond_yes false x y k = absurd k

  cond_no : {X : Type 0} (b : Bool) (x y : X) → (T b → ⊥) → cond b x y ≡ y
  cond_no true x y k = absurd (k tt)
  cond_no false x y k = refl

  -- the engine makes the edge
  made : {u v : Point} (d : Float) → Downward u v → top (exact_point u) row <ᶠ bottom (exact_point v) row
      → sloped_of h (coordinate_of u.x) (coordinate_of u.y) (coordinate_of v.x) (coordinate_of v.y) d ≡ edge_from u v d ∷ []
  made {u} {v} d edge k =
      kept h row (coordinate_of u.x) (coordinate_of u.y) (coordinate_of v.x) (coordinate_of v.y) d (exact_coordinate u.y) (exact_coordinate v.y)
      in-mask.low in-mask.inside (coordinate_is u.y edge.upper.1) (coordinate_is v.y edge.lower.1) edge.down
      (λ (es : List Edge). es ≡ edge_from u v d ∷ []) (λ f g. refl)
      (λ f. absurd (f (lt_le (le_lt (max_ge_left (exact_coordinate u.y) (natᶠ row)) k) (min_le_right (exact_coordinate v.y) (natᶠ (suc row))))
      (lt_le (le_lt (max_ge_right (exact_coordinate u.y) (natᶠ row)) k) (min_le_left (exact_coordinate v.y) (natᶠ (suc row))))))

  a0 : Exact A (coordinate_of r.«from».y)
  a0 = coordinate_is r.«from».y m.«from».1

  b0 : Exact B (coordinate_of r.to.y)
  b0 = coordinate_is r.to.y m.to.1

  abbrev downs : List Edge
  downs = sloped_of h (coordinate_of r.«from».x) (coordinate_of r.«from».y) (coordinate_of r.to.x) (coordinate_of r.to.y) f1

  abbrev ups : List Edge
  ups = sloped_of h (coordinate_of r.to.x) (coordinate_of r.to.y) (coordinate_of r.«from».x) (coordinate_of r.«from».y) f_minus_1

  -- the engine's tests: it is level, and y grows along the contour
  abbrev level : Bool
  level = eq (coordinate_of r.«from».y) (coordinate_of r.to.y)

  abbrev falls : Bool
  falls = lt (coordinate_of r.«from».y) (coordinate_of r.to.y)

  -- y grows along the contour
  facts_down : A <ᶠ B → EdgeFacts w h row r
  unfolding edge_between
  facts_down o =
      let k = crosses_down (exact_of r) row o t in
      let edge : Downward p q = record { upper = m.«from»; lower = m.to; down = o } in
      facts w h row p q false in-mask edge k r
      (cond_no level [] (cond falls downs ups) (λ e. lt_not_le o (of_eq (sym≈ (eq_yes a0 b0 e)))) ∙ cond_yes falls downs ups (lt_do a0 b0 o) ∙ made f1 edge k)
      (λ c. to_eq (part_down_is (exact_point p) (exact_point q) c row o k))
      (λ c. cond_yes (ltᵇ A B) (left_of (exact_point p) (exact_point q) c row) (left_of (exact_point q) (exact_point p) c row) (of_less A B o))

  -- y falls
  facts_up : B <ᶠ A → EdgeFacts w h row r
  unfolding edge_between
  facts_up o =
      let k = crosses_up (exact_of r) row o t in
      let edge : Downward q p = record { upper = m.to; lower = m.«from»; down = o } in
      facts w h row q p true in-mask edge k r
      (cond_no level [] (cond falls downs ups) (λ e. lt_not_le o (of_eq (eq_yes a0 b0 e))) ∙ cond_no falls downs ups (λ e. lt_not_le o (of_lt (lt_yes a0 b0 e))) ∙ made f_minus_1 edge k)
      (λ c. to_eq (part_up_is (exact_point p) (exact_point q) c row o k))
      (λ c. cond_no (ltᵇ A B) (left_of (exact_point p) (exact_point q) c row) (left_of (exact_point q) (exact_point p) c row) (λ e. lt_not_le o (of_lt (lit<ᶠ {x = A} {y = B} e))))

  pub edge_facts : EdgeFacts w h row r
  edge_facts = go (le_or_lt A B) (le_or_lt B A)
    where
      go : (A ≤ᶠ B) ⊎ (B <ᶠ A) → (B ≤ᶠ A) ⊎ (A <ᶠ B) → EdgeFacts w h row r
      go (inl x) (inl y) = absurd ((crosses_yes (exact_of r) row t).sloped (antisym x y))
      go (inl x) (inr y) = facts_down y
      go (inr x) y = facts_up x
