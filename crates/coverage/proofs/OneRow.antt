-- One row drawn: what its pieces and its sweep come to. Assumes nothing.
use mathlib.Core.Path.{◌≡◌, refl, sym, ap, ◌∙◌}
use mathlib.Core.Bool.{Bool}
use mathlib.Core.List.{List, ◌++◌}
use Prim.Native.Nat.{ℕ, zero, suc, ◌+◌, ◌≤◌, ◌<◌}
use native.Mathlib.Numerals.{add-one}
use native.Mathlib.Omega.{arith}
use lib.ListN.{length, get_or, take, drop, replicate, length-replicate, get_or-replicate}
use lib.Seq.{take_at, length-take-le, length_front}
use lib.Ieee.{Float, nan}
use Rattle.float.specs.Ops.{f0}
use Rattle.whole.specs.Whole.{of_whole}
use Rattle.accumulation.specs.Marks.{mark_words, Ready}
use Rattle.sweep.specs.Bytes.{bytes_of, add_bytes}
use Rattle.sweep.proofs.Runs.{no_area}
use Rattle.edge.specs.declared.Layout.{Layout}
use Rattle.active_edges.specs.Active.{reaching_below, pieces_of}
use Rattle.edge.specs.Floats.{edges_at}
use Rattle.active_edges.specs.Floats.{active_in, ActiveRow, Pieces}
use Rattle.edge.proofs.Floats.{same_edges, front_other}
use Rattle.coverage.specs.Drawing.{edges_row}
use Rattle.coverage.specs.Resolving.{size_of, Drawable, Drawn}

-- a row of zeros without marks can be added to
clean_ready : (cells : List Float) (touched : List ℕ) (width : ℕ) → width ≤ 4096 → cells ≡ replicate width f0 → length touched ≡ mark_words width
    → touched ≡ replicate (length touched) 0 → Ready cells touched
clean_ready cells touched width h e w m =
    let l : length cells ≡ width = ap length e ∙ length-replicate width f0 in
    record {
      narrow = omega arith;
      words = w ∙ ap mark_words (sym l);
      marked = λ c b z. ap (λ (x : List Float). get_or x c nan) e ∙ get_or-replicate width c f0 nan (omega arith);
      summed = λ v h z. none (v + 1);
    }
  where
    zeros : (n i : ℕ) → ◌≡◌ {A = ℕ} (get_or (replicate n 0) i 0) 0
    zeros zero zero = refl
    zeros zero (suc i) = refl
    zeros (suc n) zero = refl
    zeros (suc n) (suc i) = zeros n i

    none : (i : ℕ) → get_or touched i 0 ≡ 0
    none i = ap (λ (x : List ℕ). get_or x i 0) m ∙ zeros (length touched) i

-- what a row's bytes become
abbrev pub row_after : Bool → Layout → ℕ → ℕ → List Float → ℕ → List ℕ → List ℕ
row_after rule l height row fs n line = add_bytes line (edges_row rule (size_of l height) row (active_in fs l n))

-- what the call says of a row with n active edges, of which r are kept
pub record RowDrawn (rule : Bool) (l : Layout) (height row : ℕ) (fs : List Float) (n : ℕ) (line : List ℕ) (gs : List Float) (r : ℕ) (marks after : List ℕ) : Type 0 where
  pub bytes : after ≡ row_after rule l height row fs n line
  pub drawn : Drawn fs gs l n row r
  pub drawable : Drawable gs marks l r

-- after the pieces
pub record PiecesMade (l : Layout) (height row : ℕ) (fs : List Float) (n : ℕ) (gs : List Float) (r : ℕ) : Type 0 where
  pub pieces : Pieces fs l n (of_whole height) (of_whole row) (of_whole (suc row)) gs r
  pub long : length gs ≡ length fs

pub pieces_made : {l : Layout} {height row : ℕ} {fs gs : List Float} {n r : ℕ} {tall top bottom : Float} → tall ≡ of_whole height → top ≡ of_whole row → bottom ≡ of_whole (row + 1)
    → Pieces fs l n tall top bottom gs r → length gs ≡ length fs → PiecesMade l height row fs n gs r
pieces_made {l} {height} {row} {fs} {gs} {n} {r} a b c p long = record { pieces = rw (← a, ← b, ← ap of_whole (add-one row), ← c) p; long = long }

module _ {fs : List Float} {touched : List ℕ} {l : Layout} {n : ℕ} (d : Drawable fs touched l n) where
  pub row_ready : ActiveRow fs touched l n
  row_ready = record { apart = d.apart; room = d.room; ready = clean_ready (take l.width fs) touched l.width d.narrow d.cells d.words d.marks }

  -- without edges nothing changes
  pub no_edges : {rule : Bool} {height row : ℕ} {line : List ℕ} → n ≡ 0 → length line ≡ l.width → ((i : ℕ) → get_or line i 0 < 256)
      → RowDrawn rule l height row fs n line fs 0 touched line
  unfolding edges_row edges_at pieces_of reaching_below
  no_edges {rule} {height} {row} {line} z h small =
      let room = d.room in
      record {
        bytes = sym (ap (λ (k : ℕ). row_after rule l height row fs k line) z ∙ no_area rule line l.width h small);
        drawn = record { below = rw z refl; between = λ i p q. refl };
        drawable = record { narrow = d.narrow; apart = d.apart; room = omega arith; words = d.words; cells = d.cells; marks = d.marks };
      }

  module _ {height row : ℕ} {gs : List Float} {r : ℕ} (q : PiecesMade l height row fs n gs r) where
    pub row_wide : length (take l.width gs) ≡ l.width
    row_wide = let u = d.apart in let v = d.room in let w = q.long in length-take-le l.width gs (omega arith)

    cells_are : (rule : Bool) → bytes_of rule f0 (take l.width gs) ≡ edges_row rule (size_of l height) row (active_in fs l n)
    unfolding edges_row
    cells_are rule =
        ap (bytes_of rule f0) (q.pieces.cells ∙ ap (λ (x : List Float). pieces_of (of_whole height) (of_whole row) (of_whole (suc row)) x (active_in fs l n)) d.cells)

    -- and after the sweep
    pub row_drawn : {rule : Bool} {line after : List ℕ} {cells : List Float} {marks : List ℕ} → after ≡ add_bytes line (bytes_of rule f0 (take l.width gs))
        → cells ≡ replicate (length (take l.width gs)) f0 → marks ≡ replicate (length touched) 0
        → RowDrawn rule l height row fs n line (cells ++ drop l.width gs) r marks after
    row_drawn {rule} {line} {after} {cells} {marks} is x y =
        let p = q.pieces in
        let few = p.few in
        let apart = d.apart in
        let room = d.room in
        let blank : cells ≡ replicate l.width f0 = x ∙ ap (λ (i : ℕ). replicate i f0) row_wide in
        let wide : length cells ≡ l.width = ap length blank ∙ length-replicate l.width f0 in
        let m : length marks ≡ length touched = ap length y ∙ length-replicate (length touched) 0 in
        let long : length (cells ++ drop l.width gs) ≡ length fs = length_front gs cells l.width (wide ∙ sym row_wide) ∙ q.long in
        record {
          bytes = is ∙ ap (add_bytes line) (cells_are rule);
          drawn = record {
            below = same_edges r (cells ++ drop l.width gs) gs l.active (λ i h g. front_other cells gs l.width i wide (omega arith)) ∙ p.kept;
            between = λ i h g. front_other cells gs l.width i wide h ∙ p.between i h g;
          };
          drawable = record {
            narrow = d.narrow;
            apart = d.apart;
            room = omega arith;
            words = m ∙ d.words;
            cells = take_at cells (drop l.width gs) l.width wide ∙ blank;
            marks = y ∙ ap (λ (i : ℕ). replicate i 0) (sym m);
          };
        }
