-- The bytes that a sweep leaves as they were: those before the first marked word, and those behind the last touched cell
-- where the coverage is 0 there. Assumes nothing.
use mathlib.Core.Path.{◌≡◌, sym, ap, ◌∙◌}
use mathlib.Core.Bool.{Bool}
use mathlib.Core.Logic.{◌⊎◌, inl, inr}
use mathlib.Core.List.{List, ◌++◌}
use Prim.Native.Nat.{ℕ, suc, ◌+◌, ◌-◌, ◌*◌, ◌≤◌, ◌<◌}
use native.Mathlib.Decide.{dec_lt}
use native.Mathlib.Omega.{arith}
use lib.Count.{count_trailing_zeros}
use lib.ListN.{length, get_or, take, drop, take-append-drop, length-take, get_or-eq_default, get_or-append}
use lib.Seq.{get_or-take, get_or-drop, length-take-le}
use Rattle.float.specs.Ops.{f0}
use Rattle.accumulation.specs.Area.{Cells}
use Rattle.sweep.specs.Bytes.{bytes_of, add_bytes}
use Rattle.sweep.specs.declared.Run.{Run}
use Rattle.sweep.specs.Sweeping.{filled_of, Blank, line_from, Moved, SameOutside}
use Rattle.sweep.proofs.Lowest.{below_lowest}
use Rattle.sweep.proofs.Runs.{unchanged, past_run}
use Rattle.sweep.proofs.Words.{at_start, InRow, by_word}

-- ---- bytes that are filled with 0

small_take : (n : ℕ) (l : List ℕ) → ((i : ℕ) → get_or l i 0 < 256) → (i : ℕ) → get_or (take n l) i 0 < 256
small_take n l small i = go (dec_lt i n)
  where
    go : Dec (i < n) → get_or (take n l) i 0 < 256
    go (yes h) = rw (get_or-take n l i 0 h) (small i)
    go (no h) = let z : get_or (take n l) i 0 ≡ 0 = get_or-eq_default (take n l) 0 (omega (arith, length-take n l)) in omega arith

filled_zero : (from to : ℕ) (line : List ℕ) → ((i : ℕ) → from ≤ i → get_or line i 0 < 256) → filled_of from to 0 line ≡ line
filled_zero from to line small =
    let behind = drop from line in
    let low : (i : ℕ) → get_or behind i 0 < 256 = λ i. rw (get_or-drop from line i 0) (small (from + i) (omega arith)) in
    ap (λ (x : List ℕ). take from line ++ (x ++ drop (to - from) behind)) (sym (unchanged (take (to - from) behind) (small_take (to - from) behind low)))
    ∙ ap (λ (x : List ℕ). take from line ++ x) (take-append-drop (to - from) behind) ∙ take-append-drop from line

-- ---- a sweep, from a line and a row's cells to what the line is after it

module _ {e : Bool} {l₀ : List ℕ} {c₀ : Cells} {t₀ : List ℕ} {words : ℕ} (s : InRow e l₀ c₀ t₀ l₀ c₀ t₀ at_start words) (small : (i : ℕ) → get_or l₀ i 0 < 256)
    {after : List ℕ} (long : length after ≡ length l₀) (is : after ≡ line_from e l₀ c₀ at_start) where
  abbrev first : ℕ
  first = count_trailing_zeros 64 words * 64

  past_end : (k : ℕ) → length l₀ ≤ k → get_or after k 0 ≡ get_or l₀ k 0
  past_end k h = get_or-eq_default after 0 (omega arith) ∙ sym (get_or-eq_default l₀ 0 h)

  before_marks : (k : ℕ) → k < first → get_or after k 0 ≡ get_or l₀ k 0
  before_marks k h = go (dec_lt k (length l₀))
    where
      blank : Blank c₀ 0 (suc k)
      blank c p q g = by_word s c g (below_lowest 64 words _ (omega arith))

      go : Dec (k < length l₀) → get_or after k 0 ≡ get_or l₀ k 0
      go (no g) = past_end k (omega arith)
      go (yes g) =
          let rest = add_bytes (drop (suc k) l₀) (bytes_of e f0 (drop (suc k) c₀)) in
          let whole : after ≡ take (suc k) l₀ ++ rest =
          is ∙ past_run s.moved.reached (suc k) (omega arith) g blank
          ∙ ap (λ (l : List ℕ). take (suc k) l ++ add_bytes (drop (suc k) l) (bytes_of e f0 (drop (suc k) c₀))) (filled_zero 0 (suc k) l₀ (λ i o. small i)) in
          let n = length-take-le (suc k) l₀ g in
          ap (λ (l : List ℕ). get_or l k 0) whole ∙ get_or-append (take (suc k) l₀) rest 0 k (omega arith) ∙ get_or-take (suc k) l₀ k 0 (omega arith)

  pub up_to_end : SameOutside l₀ after first (length after)
  up_to_end = record { within = omega arith; same = same }
    where
      same : (k : ℕ) → (k < first) ⊎ (length after ≤ k) → get_or after k 0 ≡ get_or l₀ k 0
      same k (inl h) = before_marks k h
      same k (inr h) = past_end k (omega arith)

  pub up_to_run : {line : List ℕ} {cells : Cells} {run : Run} → Moved e l₀ c₀ at_start line cells run → length line ≡ length l₀
      → after ≡ filled_of run.from (length line) run.coverage line → run.coverage ≡ 0 → SameOutside l₀ after first run.from
  up_to_run {line} {cells} {run} m kept filled zero = let w = m.reached.within in record { within = omega arith; same = same }
    where
      still : after ≡ line
      still = filled ∙ ap (λ (b : ℕ). filled_of run.from (length line) b line) zero
          ∙ filled_zero run.from (length line) line (λ i h. rw (m.behind i h) (small i))

      same : (k : ℕ) → (k < first) ⊎ (run.from ≤ k) → get_or after k 0 ≡ get_or l₀ k 0
      same k (inl h) = before_marks k h
      same k (inr h) = ap (λ (l : List ℕ). get_or l k 0) still ∙ m.behind k h
