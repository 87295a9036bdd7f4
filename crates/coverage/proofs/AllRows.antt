-- The rows of a group, drawn from the first on: what holds before each. Assumes nothing.
use mathlib.Core.Path.{◌≡◌, refl, sym, ap, ◌∙◌, subst}
use mathlib.Core.Bool.{Bool}
use mathlib.Core.List.{List, ◌++◌}
use Prim.Native.Nat.{ℕ, suc, ◌+◌, ◌*◌, ◌-◌, ◌≤◌, ◌<◌}
use native.Mathlib.Omega.{arith}
use native.Mathlib.Decide.{ℕ_discrete, dec_lt}
use lib.ListN.{length, get_or, set, take, drop, replicate, take-append-drop, length-set, length-take, length-drop, length-replicate, get_or-replicate}
use lib.Seq.{get_or-drop, get_or-take, get_or-set_same, get_or-set_other, take-set-le, ext_get_or}
use lib.Ieee.{Float, nan}
use borrow.Rule.Slice.PartMut.{mid_of, put_mid, set_mid_at}
use Rattle.float.specs.Ops.{f0}
use Rattle.whole.specs.Whole.{of_whole}
use Rattle.cells.proofs.Rows.{ChangedTo, changed_start, changed_more, changed_all}
use Rattle.accumulation.specs.Marks.{mark_words}
use Rattle.sweep.specs.Bytes.{add_bytes}
use Rattle.edge.specs.declared.Edge.{Edge}
use Rattle.edge.specs.declared.Layout.{Layout}
use Rattle.active_edges.specs.Active.{reaching_below, active_edges}
use Rattle.edge.specs.Floats.{edges_at}
use Rattle.edge.specs.Table.{edges_in, Placed, first_in}
use Rattle.active_edges.specs.Floats.{active_in, Joining, Joined}
use Rattle.edge.proofs.Floats.{Same, same_edges, edges_length, take_same}
use Rattle.edge.proofs.Linking.{from_same, next_same}
use Rattle.coverage.specs.Drawing.{edges_row}
use Rattle.coverage.specs.Scratch.{Clean}
use Rattle.coverage.specs.Resolving.{size_of, add_row, active_row, edges_rows, Drawable, Drawn, RowsReady}
use Rattle.coverage.proofs.Active.{kept_of, active_is, kept_next, few}
use Rattle.coverage.proofs.OneRow.{row_after}

-- the heads stand behind the words of marks
abbrev heads_in : List ℕ → ℕ → ℕ → List ℕ
heads_in counters words height = mid_of words (words + height - words) counters

-- before a row: the rows above are drawn, and the first `kept` active edges reach it from above
pub record AtRow (m₀ : List ℕ) (fs₀ : List Float) (cs₀ : List ℕ) (l : Layout) (height : ℕ) (rule : Bool) (words : ℕ)
    (mask : List ℕ) (fs : List Float) (cs : List ℕ) (from kept row : ℕ) : Type 0 where
  pub rows : ChangedTo (add_row (active_row rule (size_of l height) (edges_in fs₀ l))) l.width height m₀ mask from row
  pub is_words : words ≡ mark_words l.width
  pub floats_long : length fs ≡ length fs₀
  pub counters_long : length cs ≡ length cs₀
  pub cells : take l.width fs ≡ replicate l.width f0
  pub marks : take words cs ≡ replicate words 0
  pub heads : (r : ℕ) → row ≤ r → r < height → get_or cs (words + r) 0 ≡ get_or cs₀ (words + r) 0
  pub done : (r : ℕ) → r < row → get_or cs (words + r) 0 ≡ 0
  pub between : (i : ℕ) → l.width ≤ i → i < l.active → get_or fs i nan ≡ get_or fs₀ i nan
  pub kept_are : active_in fs l kept ≡ kept_of (edges_in fs₀ l) row

module _ {m₀ : List ℕ} {fs₀ : List Float} {cs₀ : List ℕ} {l : Layout} {height : ℕ} {rule : Bool} {words : ℕ} (t : RowsReady m₀ fs₀ cs₀ l height) where
  pub rows_start : words ≡ mark_words l.width → AtRow m₀ fs₀ cs₀ l height rule words m₀ fs₀ cs₀ 0 0 0
  unfolding edges_at kept_of
  rows_start w = record {
    rows = changed_start t.bytes;
    is_words = w;
    floats_long = refl;
    counters_long = refl;
    cells = t.cells;
    marks = rw w t.marks;
    heads = λ r p q. refl;
    done = λ r p. absurd (omega arith);
    between = λ i p q. refl;
    kept_are = refl;
  }

  module _ {mask : List ℕ} {fs : List Float} {cs : List ℕ} {from kept row : ℕ} (s : AtRow m₀ fs₀ cs₀ l height rule words mask fs cs from kept row) where
    pub counters_room : words + height ≤ length cs
    counters_room = let a = t.counters_enough in let b = s.counters_long in let c = s.is_words in omega arith

    heads_long : length (heads_in cs words height) ≡ height
    heads_long = let a = counters_room in simp (length-take, length-drop) (omega arith)

    head_at : (r : ℕ) → r < height → get_or (heads_in cs words height) r 0 ≡ get_or cs (words + r) 0
    head_at r h = get_or-take (words + height - words) (drop words cs) r 0 (omega arith) ∙ get_or-drop words cs r 0

    apart : l.width ≤ l.active
    apart = let a = t.placed.edges in let b = t.placed.nexts in omega arith

    same : Same fs fs₀ l.width (l.width + 5 * l.count)
    same i p q = let a = t.placed.edges in let b = t.placed.nexts in s.between i p (omega arith)

    edges_same : edges_in fs l ≡ edges_in fs₀ l
    edges_same = same_edges l.count fs fs₀ l.width same

    placed : Placed fs l
    placed =
        let a = t.placed.active in
        let b = s.floats_long in
        record { edges = t.placed.edges; nexts = t.placed.nexts; active = omega arith; few = t.placed.few }

    -- all rows are drawn
    pub rows_done : height ≤ row → (mask ≡ edges_rows rule (size_of l height) (edges_in fs₀ l) m₀) × Clean fs cs (size_of l height)
    rows_done h = (
      changed_all s.rows h,
      record { cells = s.cells; counts = subst (λ (w : ℕ). take (w + height) cs ≡ replicate (w + height) 0) s.is_words zeros },
    )
      where
        at : (i : ℕ) → i < words + height → Dec (i < words) → get_or cs i 0 ≡ 0
        at i g (yes p) = sym (get_or-take words cs i 0 p) ∙ ap (λ (x : List ℕ). get_or x i 0) s.marks ∙ get_or-replicate words i 0 0 p
        at i g (no p) =
            let e : i ≡ words + (i - words) = omega arith in
            let w = s.rows.within in
            ap (λ (k : ℕ). get_or cs k 0) e ∙ s.done (i - words) (omega arith)

        zeros : take (words + height) cs ≡ replicate (words + height) 0
        zeros =
            let a = counters_room in
            ext_get_or 0 (take (words + height) cs) (replicate (words + height) 0) (simp (length-take, length-replicate) (omega arith))
            (λ i b.
            let g : i < words + height = omega (arith, length-take (words + height) cs) in
            get_or-take (words + height) cs i 0 g ∙ at i g (dec_lt i words) ∙ sym (get_or-replicate (words + height) i 0 0 g))

    module _ (more : row < height) where
      pub joining : Joining fs (heads_in cs words height) l kept row
      joining =
          let z : l.count - 0 ≡ l.count = omega arith in
          let k : kept ≡ length (kept_of (edges_in fs₀ l) row) = sym (edges_length kept fs l.active) ∙ ap length s.kept_are in
          let f = few (edges_in fs₀ l) row in
          let n : length (edges_in fs₀ l) ≡ l.count = edges_length l.count fs₀ l.width in
          let a = t.placed.edges in
          let b = t.placed.nexts in
          record {
            fits = placed;
            inside = rw heads_long more;
            first = head_at row more ∙ s.heads row (omega arith) more ∙ ap (λ (w : ℕ). get_or cs₀ (w + row) 0) s.is_words ∙ t.head row more
                ∙ subst (λ (m : ℕ). first_in fs₀ l row 0 m ≡ first_in fs l row 0 m) z (sym (from_same fs fs₀ l same row 0 (omega arith)));
            next = λ j p h. s.between (l.nexts + j) (omega arith) (omega arith) ∙ t.next j p h ∙ ap of_whole (sym (next_same fs fs₀ l same j h));
            room = rw edges_same (omega arith);
          }

      -- after the row's edges joined
      module _ {gs : List Float} {heads : List ℕ} {n : ℕ} (j : Joined fs gs l kept row n) (k : heads ≡ set (heads_in cs words height) row 0) (gl : length gs ≡ length fs) where
        abbrev cs' : List ℕ
        cs' = put_mid words (words + height - words) cs heads

        -- the row's head is taken out
        taken_out : cs' ≡ set cs (words + row) 0
        taken_out = ap (put_mid words (words + height - words) cs) k ∙ set_mid_at words (words + height - words) row cs 0 (rw heads_long more)

        pub taken_long : length cs' ≡ length cs
        taken_long = ap length taken_out ∙ length-set cs (words + row) 0

        front_is : take words cs' ≡ replicate words 0
        front_is = ap (take words) taken_out ∙ take-set-le words cs (words + row) 0 (omega arith) ∙ s.marks

        active_are : active_in gs l n ≡ active_edges (edges_in fs₀ l) row
        active_are = j.all ∙ rw (s.kept_are, edges_same) (active_is (edges_in fs₀ l) row)

        pub drawable : Drawable gs (take words cs') l n
        drawable =
            let a = t.placed.active in
            let b = s.floats_long in
            let c = j.count in
            let f = joining.room in
            let w : length (take words cs') ≡ words = ap length front_is ∙ length-replicate words 0 in
            record {
              narrow = t.size_allowed.0;
              apart = apart;
              room = omega arith;
              words = w ∙ s.is_words;
              cells = take_same l.width gs fs gl (λ i h. j.low i (let g = apart in omega arith)) ∙ s.cells;
              marks = front_is ∙ ap (λ (i : ℕ). replicate i 0) (sym w);
            }

        -- after the row was drawn
        pub rows_turn : {line : List ℕ} {hs : List Float} {marks : List ℕ} {r : ℕ} → length line ≡ length (mid_of from (from + l.width - from) mask)
            → line ≡ row_after rule l height row gs n (mid_of from (from + l.width - from) mask) → Drawn gs hs l n row r → Drawable hs marks l r → length hs ≡ length gs
            → AtRow m₀ fs₀ cs₀ l height rule words (put_mid from (from + l.width - from) mask line) hs (marks ++ drop words cs') (from + l.width) r (row + 1)
        rows_turn {line} {hs} {marks} {r} long is d x hl = record {
          rows = changed_more s.rows more long
              (is ∙ ap (λ (y : List Edge). add_bytes (mid_of from (from + l.width - from) mask) (edges_row rule (size_of l height) row y)) active_are);
          is_words = s.is_words;
          floats_long = hl ∙ gl ∙ s.floats_long;
          counters_long = ap length after_is ∙ length-set cs (words + row) 0 ∙ s.counters_long;
          cells = x.cells;
          marks = ap (take words) after_is ∙ take-set-le words cs (words + row) 0 (omega arith) ∙ s.marks;
          heads = λ i p q. at i ∙ get_or-set_other cs (words + row) (words + i) 0 0 (λ e. omega arith) ∙ s.heads i (omega arith) q;
          done = λ i p. at i ∙ taken i p (ℕ_discrete i row);
          between = λ i p q. d.between i p q ∙ j.low i q ∙ s.between i p q;
          kept_are = d.below ∙ ap (reaching_below (of_whole (suc row))) active_are ∙ kept_next (edges_in fs₀ l) row;
        }
          where
            marks_are : marks ≡ take words cs'
            marks_are = x.marks ∙ ap (λ (i : ℕ). replicate i 0) (x.words ∙ sym s.is_words) ∙ sym front_is

            -- the counters are those of before, without the row's head
            after_is : marks ++ drop words cs' ≡ set cs (words + row) 0
            after_is = ap (λ (y : List ℕ). y ++ drop words cs') marks_are ∙ take-append-drop words cs' ∙ taken_out

            at : (i : ℕ) → get_or (marks ++ drop words cs') (words + i) 0 ≡ get_or (set cs (words + row) 0) (words + i) 0
            at i = ap (λ (y : List ℕ). get_or y (words + i) 0) after_is

            taken : (i : ℕ) → i < row + 1 → Dec (i ≡ row) → get_or (set cs (words + row) 0) (words + i) 0 ≡ 0
            taken i p (yes e) =
                let a = counters_room in
                ap (λ (q : ℕ). get_or (set cs (words + row) 0) (words + q) 0) e ∙ get_or-set_same cs (words + row) 0 0 (omega arith)
            taken i p (no n) = get_or-set_other cs (words + row) (words + i) 0 0 (λ e. n (omega arith)) ∙ s.done i (omega arith)
