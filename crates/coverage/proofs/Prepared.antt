-- A group's edges put into the table: its rows can be drawn, and come to the group's. Assumes nothing.
use mathlib.Core.Path.{◌≡◌, sym, ap, ap₂, ◌∙◌, subst}
use mathlib.Core.Bool.{Bool}
use mathlib.Core.List.{List, ◌++◌}
use Prim.Native.Nat.{ℕ, ◌+◌, ◌*◌, ◌-◌, ◌≤◌, ◌<◌}
use native.Mathlib.Omega.{arith}
use lib.ListN.{length, get_or, take, drop, replicate, length-take, length-drop, get_or-replicate, get_or-append}
use lib.Seq.{get_or-append-add, get_or-drop, get_or-take, take-take, length-take-le}
use lib.Ieee.{Float}
use borrow.Rule.Slice.PartMut.{mid_of, post_of, put_mid, take_put, same_len_mid}
use Rattle.word_list.specs.Words.{Group}
use Rattle.cells.specs.declared.Size.{Size}
use Rattle.cells.specs.Rows.{rows_changed}
use Rattle.std.proofs.lemmas.List.{take-replicate}
use Rattle.cells.proofs.Rows.{changes_alike}
use Rattle.accumulation.specs.Marks.{mark_words}
use Rattle.sweep.specs.Bytes.{add_bytes}
use Rattle.edge.specs.declared.Edge.{Edge}
use Rattle.edge.specs.declared.Layout.{Layout}
use Rattle.edge.specs.Edges.{start_row}
use Rattle.active_edges.specs.Active.{active_edges}
use Rattle.edge.specs.Floats.{edges_at}
use Rattle.edge.specs.Table.{nth, edges_in, Placed, first_in, InTable, NextsChanged}
use Rattle.edge.proofs.Floats.{same_edges, take_same}
use Rattle.edge.proofs.Linking.{nexts_same}
use Rattle.contour.proofs.StartRows.{starts_below}
use Rattle.coverage.specs.Drawing.{edges_row, group_row}
use Rattle.coverage.specs.Scratch.{Room, Clean}
use Rattle.coverage.specs.Resolving.{GroupStored, SomeGroupStored, add_row, rows_added, active_row, edges_rows, RowsReady}

-- where the parts of the scratch stand for a list of so many points
abbrev layout_of : Size → ℕ → ℕ → Layout
layout_of size points count = record { width = size.width; nexts = size.width + 5 * points; active = size.width + 5 * points + points; count = count }

-- a mask without rows stays as it is
pub no_rows : (size : Size) (g : Group) {mask : List ℕ} → size.height ≡ 0 → mask ≡ rows_added (group_row size g) size mask
unfolding rows_changed
no_rows size g {mask} z = ap (λ (n : ℕ). rows_changed (add_row (group_row size g)) size.width n 0 mask) (sym z)

module _ {mask : List ℕ} {fs : List Float} {cs : List ℕ} {size : Size} {points count words : ℕ}
    (m : Room mask fs cs size points) (c : Clean fs cs size) (few : count ≤ points) (w : words ≡ mark_words size.width) where
  pub counters_room : words + size.height ≤ length cs
  counters_room = let a = m.counters_enough in omega arith

  heads_long : length (mid_of words (words + size.height - words) cs) ≡ size.height
  heads_long = let a = counters_room in simp (length-take, length-drop) (omega arith)

  zeros : take (words + size.height) cs ≡ replicate (words + size.height) 0
  zeros = subst (λ (k : ℕ). take (k + size.height) cs ≡ replicate (k + size.height) 0) (sym w) c.counts

  pub placed : Placed fs (layout_of size points count)
  placed = let a = m.floats_enough in let b = m.few in record { edges = omega arith; nexts = omega arith; active = omega arith; few = omega arith }

  pub heads_zero : (r : ℕ) → r < length (mid_of words (words + size.height - words) cs) → get_or (mid_of words (words + size.height - words) cs) r 0 ≡ 0
  heads_zero r h =
      let a = heads_long in
      get_or-take (words + size.height - words) (drop words cs) r 0 (omega arith) ∙ get_or-drop words cs r 0
      ∙ sym (get_or-take (words + size.height) cs (words + r) 0 (omega arith)) ∙ ap (λ (x : List ℕ). get_or x (words + r) 0) zeros
      ∙ get_or-replicate (words + size.height) (words + r) 0 0 (omega arith)

  pub heads_enough : {rule : Bool} → SomeGroupStored fs size count rule → 0 < size.height → (j : ℕ) → j < count
      → start_row (nth fs (layout_of size points count) j) < length (mid_of words (words + size.height - words) cs)
  heads_enough s some j h =
      rw heads_long (starts_below size.height some m.size_allowed.1 s.group.contours fs size.width count s.stored.edges j h)

  -- the table is made
  module _ {gs : List Float} {hs : List ℕ} (t : InTable gs hs (layout_of size points count) 0) (n : NextsChanged fs gs (layout_of size points count))
      (long : length hs ≡ length (mid_of words (words + size.height - words) cs)) where
    abbrev counters : List ℕ
    counters = put_mid words (words + size.height - words) cs hs

    front : take words counters ≡ replicate words 0
    front =
        let a = counters_room in
        take_put words (words + size.height - words) cs hs (omega arith) ∙ sym (take-take words (words + size.height) cs (omega arith))
        ∙ ap (take words) zeros ∙ take-replicate words (words + size.height) 0 (omega arith)

    head_at : (r : ℕ) → r < size.height → get_or counters (words + r) 0 ≡ get_or hs r 0
    head_at r h =
        let a = counters_room in
        let b = heads_long in
        let rest = post_of words (words + size.height - words) cs in
        let e : length (take words cs) ≡ words = length-take-le words cs (omega arith) in
        subst (λ (k : ℕ). get_or counters (k + r) 0 ≡ get_or hs r 0) e
        (get_or-append-add (take words cs) (hs ++ rest) r 0 ∙ get_or-append hs rest 0 r (omega arith))

    pub rows_ready : RowsReady mask gs counters (layout_of size points count) size.height
    rows_ready =
        let b = heads_long in
        let z : count - 0 ≡ count = omega arith in
        let cl : length counters ≡ length cs = same_len_mid words (words + size.height - words) cs hs long in
        let p = placed in
        let g = n.long in
        let a = p.active in
        record {
          size_allowed = m.size_allowed;
          bytes = m.cells;
          counters_enough = rw cl m.counters_enough;
          placed = record { edges = p.edges; nexts = p.nexts; active = omega arith; few = p.few };
          cells = take_same size.width gs fs n.long (λ i h. n.low i (omega arith)) ∙ c.cells;
          marks = subst (λ (k : ℕ). take k counters ≡ replicate k 0) w front;
          head = λ r h. ap (λ (k : ℕ). get_or counters (k + r) 0) (sym w) ∙ head_at r h ∙ t.head r (omega arith) ∙ ap (first_in gs (layout_of size points count) r 0) z;
          next = t.next;
        }

    -- every row's bytes are the group's
    pub group_rows : {rule : Bool} (g : Group) → GroupStored fs size count rule g
        → edges_rows rule size (edges_in gs (layout_of size points count)) mask ≡ rows_added (group_row size g) size mask
    unfolding group_row
    group_rows {rule} g h =
        changes_alike (add_row (active_row rule size (edges_in gs (layout_of size points count)))) (add_row (group_row size g))
        (λ r line. ap₂ (λ (x : List Edge) (y : Bool). add_bytes line (edges_row y size r (active_edges x r))) (unmoved ∙ h.edges) h.is_rule)
        size.width size.height 0 mask
      where
        unmoved : edges_in gs (layout_of size points count) ≡ edges_at fs size.width count
        unmoved = same_edges count gs fs size.width (nexts_same fs gs (layout_of size points count) placed n)
