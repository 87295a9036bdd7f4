-- Edges stored one behind another. Assumes nothing.
use mathlib.Core.Path.{◌≡◌, refl, sym, ap, ◌∙◌}
use mathlib.Core.Logic.{inl}
use mathlib.Core.List.{List, [], ◌∷◌, ◌++◌, append_assoc, append-nil}
use Prim.Native.Nat.{ℕ, ◌+◌, ◌*◌, ◌≤◌}
use native.Mathlib.Omega.{arith}
use lib.ListN.{length}
use lib.Ieee.{Float}
use Rattle.edge.specs.declared.Edge.{Edge}
use Rattle.edge.specs.Floats.{edges_at, put_edge, Pushed}
use Rattle.edge.proofs.Floats.{same_edges, put_other, put_own, edges_snoc}

-- ---- no edge more, one more, and several

pub pushed_none : {fs : List Float} {edges count most : ℕ} → Pushed fs fs edges count count most []
pushed_none {fs} {edges} {count} = record { all = sym (append-nil (edges_at fs edges count)); few = omega arith; front = λ i h. refl }

pub pushed_one : {fs : List Float} {edges count : ℕ} {e : Edge} → edges + 5 * count + 5 ≤ length fs
    → Pushed fs (put_edge fs (edges + 5 * count) e) edges count (count + 1) 1 (e ∷ [])
pushed_one {fs} {edges} {count} {e} h =
    let gs : List Float = put_edge fs (edges + 5 * count) e in
    let old : edges_at gs edges count ≡ edges_at fs edges count =
    same_edges count gs fs edges (λ i p q. put_other fs (edges + 5 * count) e i (inl q)) in
    record {
      all = edges_snoc count gs edges ∙ rw (old, put_own fs (edges + 5 * count) e h) refl;
      few = omega arith;
      front = λ i l. put_other fs (edges + 5 * count) e i (inl (omega arith));
    }

pub pushed_more : {a b c : List Float} {edges count r s m n : ℕ} {new more : List Edge}
    → Pushed a b edges count r m new → Pushed b c edges r s n more → Pushed a c edges count s (m + n) (new ++ more)
pushed_more {a} {edges = edges} {count} {new = new} {more} p q =
    record {
      all = q.all ∙ ap (λ (l : List Edge). l ++ more) p.all ∙ append_assoc (edges_at a edges count) new more;
      few = omega arith;
      front = λ i h. q.front i h ∙ p.front i h;
    }
