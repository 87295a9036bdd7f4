-- The touched cells of a row, by the words of its marks: what holds before each bit of a word, and before each word.
-- Assumes nothing.
use mathlib.Core.Path.{◌≡◌, refl, sym, ap, ◌∙◌}
use mathlib.Core.Logic.{◌≢◌, ◌⊎◌, inl, inr}
use mathlib.Core.Bool.{Bool}
use mathlib.Core.List.{List}
use Prim.Native.Nat.{ℕ, ◌+◌, ◌*◌, ◌-◌, ◌/◌, ◌%◌, ◌^◌, ◌≤◌, ◌<◌}
use native.Mathlib.Nat.{lt_trans}
use native.Mathlib.Omega.{arith}
use native.Mathlib.Decide.{ℕ_discrete, dec_lt}
use lib.Count.{count_trailing_zeros, trailing_le}
use lib.ListN.{length, get_or, set, length-set, replicate, length-replicate, get_or-replicate}
use lib.Seq.{get_or-set_same, get_or-set_other, ext_get_or}
use lib.Ieee.{nan}
use Rattle.float.specs.Ops.{f0}
use Rattle.accumulation.specs.Area.{Cells}
use Rattle.accumulation.specs.Marks.{mark_words, bit_of, Clear, Ready}
use Rattle.sweep.specs.declared.Run.{Run}
use Rattle.sweep.specs.Sweeping.{Blank, Reached, Moved, MarkWord, WordDone, WordsDone}
use Rattle.sweep.proofs.Winding.{steady_zero}
use Rattle.sweep.proofs.Runs.{covered_zero}
use Rattle.sweep.proofs.Lowest.{rest, zero_bit, below_lowest, lowest_lt, rest_high, rest_above, rest_lt}

pub back : (n : ℕ) → n + 1 - 1 ≡ n
back n = omega arith

still : {even_odd : Bool} {line : List ℕ} {cells : Cells} {run : Run} → Reached even_odd line cells run → Moved even_odd line cells run line cells run
still r = record { reached = r; line_same = refl; since = omega arith; behind = λ k o. refl }

onward : {even_odd : Bool} {l₀ l₁ l₂ : List ℕ} {c₀ c₁ c₂ : Cells} {r₀ r₁ r₂ : Run}
    → Moved even_odd l₀ c₀ r₀ l₁ c₁ r₁ → Moved even_odd l₁ c₁ r₁ l₂ c₂ r₂ → Moved even_odd l₀ c₀ r₀ l₂ c₂ r₂
onward m n =
    let p = m.since in
    let q = n.since in
    record { reached = n.reached; line_same = m.line_same ∙ n.line_same; since = omega arith; behind = λ k o. n.behind k o ∙ m.behind k (omega arith) }

-- ---- the bits of a word

pub record InWord (even_odd : Bool) (line₀ : List ℕ) (cells₀ : Cells) (first : Run) (base : ℕ)
    (line : List ℕ) (cells : Cells) (run : Run) (bits : ℕ) : Type 0 where
  pub small : bits < 2 ^ 64
  pub line_long : length line ≡ length line₀
  pub cells_long : length cells ≡ length cells₀
  pub moved : Moved even_odd line₀ cells₀ first line cells run
  pub since : first.from ≤ run.from
  pub ahead : run.from ≤ base + count_trailing_zeros 64 bits
  pub clear : (cell : ℕ) → first.from ≤ cell → cell < base + 64 → cell < length cells → (base ≤ cell → bit_of bits (cell - base) ≡ 0)
      → get_or cells cell nan ≡ f0
  pub kept : (cell : ℕ) → (cell < first.from) ⊎ (base + 64 ≤ cell) → get_or cells cell nan ≡ get_or cells₀ cell nan

module _ {even_odd : Bool} {line₀ : List ℕ} {cells₀ : Cells} {first : Run} {base : ℕ} where
  pub word_start : {word : ℕ} → word < 2 ^ 64 → Reached even_odd line₀ cells₀ first → MarkWord cells₀ first base word
      → InWord even_odd line₀ cells₀ first base line₀ cells₀ first word
  word_start h r w =
      let a = w.ahead in
      record {
        small = h;
        line_long = refl;
        cells_long = refl;
        moved = still r;
        since = omega arith;
        ahead = omega arith;
        clear = w.clear;
        kept = λ c o. refl;
      }

  module _ {line : List ℕ} {cells : Cells} {run : Run} {bits : ℕ} (s : InWord even_odd line₀ cells₀ first base line cells run bits) where
    -- where the bits from `run` on are clear up to the row's end, the word is done
    pub word_done : ((c : ℕ) → base ≤ c → c < base + 64 → c < length cells → bit_of bits (c - base) ≡ 0)
        → WordDone cells₀ cells first run base
    word_done z =
        let a = s.ahead in
        let t = trailing_le 64 bits in
        record { reach = omega arith; blank = λ c p q h. s.clear c p q h (λ l. z c l q h); kept = s.kept }

    module _ (some : 0 < bits) where
      abbrev cell : ℕ
      cell = base + count_trailing_zeros 64 bits

      bit_low : count_trailing_zeros 64 bits < 64
      bit_low = lowest_lt bits some s.small

      pub word_past : length cells ≤ cell → WordDone cells₀ cells first run base
      word_past h = word_done (λ c p q g. below_lowest 64 bits (c - base) (omega arith))

      pub word_blank : Blank cells run.from cell
      word_blank c p q h =
          let t = bit_low in
          let n = s.since in
          s.clear c (omega arith) (omega arith) h (λ l. below_lowest 64 bits (c - base) (omega arith))

      module _ {line' : List ℕ} {cells' : Cells} {run' : Run} (in_row : cell < length cells) (long : length line' ≡ length line)
          (m : Moved even_odd line cells run line' cells' run') (at : run'.from ≡ cell + 1) (is : cells' ≡ set cells cell f0) where
        other_cell : (c : ℕ) → c ≢ cell → get_or cells' c nan ≡ get_or cells c nan
        other_cell c d = ap (λ (l : Cells). get_or l c nan) is ∙ get_or-set_other cells cell c f0 nan d

        still_long : length cells' ≡ length cells
        still_long = ap length is ∙ length-set cells cell f0

        clear : (c : ℕ) → first.from ≤ c → c < base + 64 → c < length cells' → (base ≤ c → bit_of (rest bits) (c - base) ≡ 0)
            → get_or cells' c nan ≡ f0
        clear c p q h z = go (ℕ_discrete c cell)
          where
            bit : c ≢ cell → base ≤ c → Dec (c - base < count_trailing_zeros 64 bits) → bit_of bits (c - base) ≡ 0
            bit d l (yes b) = below_lowest 64 bits (c - base) b
            bit d l (no b) = sym (rest_high 64 bits (c - base) some (above (ℕ_discrete (c - base) (count_trailing_zeros 64 bits))) bit_low) ∙ z l
              where
                above : Dec (c - base ≡ count_trailing_zeros 64 bits) → count_trailing_zeros 64 bits < c - base
                above (yes e) = absurd (d (omega arith))
                above (no e) = omega arith

            go : Dec (c ≡ cell) → get_or cells' c nan ≡ f0
            go (yes e) =
                ap (λ (l : Cells). get_or l c nan) is ∙ ap (λ (i : ℕ). get_or (set cells cell f0) i nan) e ∙ get_or-set_same cells cell f0 nan in_row
            go (no d) = other_cell c d ∙ s.clear c p q (rw still_long at h) (λ l. bit d l (dec_lt (c - base) (count_trailing_zeros 64 bits)))

        kept : (c : ℕ) → (c < first.from) ⊎ (base + 64 ≤ c) → get_or cells' c nan ≡ get_or cells₀ c nan
        kept c (inl p) = let a = s.ahead in let n = s.since in other_cell c (λ e. omega arith) ∙ s.kept c (inl p)
        kept c (inr p) = let t = bit_low in other_cell c (λ e. omega arith) ∙ s.kept c (inr p)

        pub word_turn : InWord even_odd line₀ cells₀ first base line' cells' run' (rest bits)
        word_turn =
            let b = s.small in
            let r = rest_lt bits some in
            let u = rest_above 64 bits some bit_low in
            let a = s.ahead in
            let n = s.since in
            record {
              small = lt_trans r b;
              line_long = long ∙ s.line_long;
              cells_long = still_long ∙ s.cells_long;
              moved = onward s.moved m;
              since = omega arith;
              ahead = omega arith;
              clear = clear;
              kept = kept;
            }

-- ---- the words of a row

-- the run that a row starts with
abbrev pub at_start : Run
at_start = record { from = 0; winding = f0; coverage = 0 }

pub record InRow (even_odd : Bool) (line₀ : List ℕ) (cells₀ : Cells) (touched₀ : List ℕ)
    (line : List ℕ) (cells : Cells) (touched : List ℕ) (run : Run) (words : ℕ) : Type 0 where
  pub small : words < 2 ^ 64
  pub narrow : length cells ≤ 4096
  pub room : length touched ≡ mark_words (length cells)
  pub line_long : length line ≡ length line₀
  pub cells_long : length cells ≡ length cells₀
  pub touched_long : length touched ≡ length touched₀
  pub moved : Moved even_odd line₀ cells₀ at_start line cells run
  pub ahead : run.from ≤ count_trailing_zeros 64 words * 64
  pub marked : (cell : ℕ) → cell < length cells → Clear touched cell → get_or cells cell nan ≡ f0
  pub summed : (word : ℕ) → word < 64 → bit_of words word ≡ 0 → get_or touched (word + 1) 0 ≡ 0

module _ {even_odd : Bool} {line₀ : List ℕ} {cells₀ : Cells} {touched₀ : List ℕ} where
  pub row_start : {words : ℕ} → words ≡ get_or touched₀ 0 0 → words < 2 ^ 64 → Ready cells₀ touched₀ → length line₀ ≡ length cells₀
      → InRow even_odd line₀ cells₀ touched₀ line₀ cells₀ touched₀ at_start words
  row_start e h r same =
      record {
        small = h;
        narrow = r.narrow;
        room = r.words;
        line_long = refl;
        cells_long = refl;
        touched_long = refl;
        moved = still (record { same = same; within = omega arith; steady = steady_zero; byte = sym (covered_zero even_odd) });
        ahead = omega arith;
        marked = r.marked;
        summed = λ w l z. r.summed w l (ap (λ (x : ℕ). bit_of x w) (sym e) ∙ z);
      }

  module _ {line : List ℕ} {cells : Cells} {touched : List ℕ} {run : Run} {words : ℕ}
      (s : InRow even_odd line₀ cells₀ touched₀ line cells touched run words) where
    -- a cell of a word whose bit is clear
    pub by_word : (c : ℕ) → c < length cells → bit_of words (c / 64) ≡ 0 → get_or cells c nan ≡ f0
    by_word c h z =
        let n = s.narrow in
        s.marked c h (ap (λ (x : ℕ). bit_of x (c % 64)) (s.summed (c / 64) (omega arith) z) ∙ zero_bit (c % 64))

    pub row_done : ((w : ℕ) → w + 1 < length touched → bit_of words w ≡ 0) → WordsDone cells touched
    row_done z =
        let n = s.narrow in
        let r = s.room in
        record { blank = λ c p q h. by_word c h (z (c / 64) (omega arith)); words = λ w h. s.summed w (omega arith) (z w h) }

    module _ (some : 0 < words) where
      abbrev word : ℕ
      word = count_trailing_zeros 64 words

      word_low : word < 64
      word_low = lowest_lt words some s.small

      pub row_past : length touched ≤ word + 1 → WordsDone cells touched
      row_past h = row_done (λ w l. below_lowest 64 words w (omega arith))

      pub row_word : MarkWord cells run (word * 64) (get_or touched (word + 1) 0)
      row_word = record { ahead = s.ahead; clear = λ c p q h z. go c q h z (dec_lt c (word * 64)) }
        where
          go : (c : ℕ) → c < word * 64 + 64 → c < length cells → (word * 64 ≤ c → bit_of (get_or touched (word + 1) 0) (c - word * 64) ≡ 0)
              → Dec (c < word * 64) → get_or cells c nan ≡ f0
          go c q h z (yes b) = by_word c h (below_lowest 64 words (c / 64) (omega arith))
          go c q h z (no b) =
              let e : c / 64 ≡ word = omega arith in
              let f : c % 64 ≡ c - word * 64 = omega arith in
              s.marked c h
              (ap (λ (i : ℕ). bit_of (get_or touched (i + 1) 0) (c % 64)) e ∙ ap (bit_of (get_or touched (word + 1) 0)) f ∙ z (omega arith))

      module _ {line' : List ℕ} {cells' : Cells} {run' : Run} (in_row : word + 1 < length touched)
          (long : length line' ≡ length line) (same : length cells' ≡ length cells)
          (m : Moved even_odd line cells run line' cells' run') (d : WordDone cells cells' run run' (word * 64)) where
        other_word : (w : ℕ) → w ≢ word → get_or (set touched (word + 1) 0) (w + 1) 0 ≡ get_or touched (w + 1) 0
        other_word w n = get_or-set_other touched (word + 1) (w + 1) 0 0 (λ e. n (omega arith))

        marked : (c : ℕ) → c < length cells' → Clear (set touched (word + 1) 0) c → get_or cells' c nan ≡ f0
        marked c h z = go (dec_lt c run.from) (dec_lt c (word * 64 + 64))
          where
            apart : c / 64 ≢ word → (c < run.from) ⊎ (word * 64 + 64 ≤ c) → get_or cells' c nan ≡ f0
            apart n o =
                d.kept c o ∙ s.marked c (rw same at h) (ap (λ (x : ℕ). bit_of x (c % 64)) (sym (other_word (c / 64) n)) ∙ z)

            go : Dec (c < run.from) → Dec (c < word * 64 + 64) → get_or cells' c nan ≡ f0
            go (yes p) q = let a = s.ahead in apart (λ e. omega arith) (inl p)
            go (no p) (yes q) = d.blank c (omega arith) q h
            go (no p) (no q) = apart (λ e. omega arith) (inr (omega arith))

        summed : (w : ℕ) → w < 64 → bit_of (rest words) w ≡ 0 → get_or (set touched (word + 1) 0) (w + 1) 0 ≡ 0
        summed w h z = go (ℕ_discrete w word) (dec_lt w word)
          where
            go : Dec (w ≡ word) → Dec (w < word) → get_or (set touched (word + 1) 0) (w + 1) 0 ≡ 0
            go (yes e) q =
                ap (λ (i : ℕ). get_or (set touched (word + 1) 0) (i + 1) 0) e ∙ get_or-set_same touched (word + 1) 0 0 in_row
            go (no n) (yes q) = other_word w n ∙ s.summed w h (below_lowest 64 words w q)
            go (no n) (no q) = other_word w n ∙ s.summed w h (sym (rest_high 64 words w some (omega arith) word_low) ∙ z)

        pub row_turn : InRow even_odd line₀ cells₀ touched₀ line' cells' (set touched (word + 1) 0) run' (rest words)
        row_turn =
            let b = s.small in
            let r = rest_lt words some in
            let u = rest_above 64 words some word_low in
            let a = d.reach in
            record {
              small = lt_trans r b;
              narrow = rw same s.narrow;
              room = length-set touched (word + 1) 0 ∙ s.room ∙ ap mark_words (sym same);
              line_long = long ∙ s.line_long;
              cells_long = same ∙ s.cells_long;
              touched_long = length-set touched (word + 1) 0 ∙ s.touched_long;
              moved = onward s.moved m;
              ahead = omega arith;
              marked = marked;
              summed = summed;
            }

-- ---- no mark is left

pub no_marks : {cells : Cells} {touched : List ℕ} → WordsDone cells touched → set touched 0 0 ≡ replicate (length touched) 0
no_marks {touched = touched} d =
    ext_get_or 0 (set touched 0 0) (replicate (length touched) 0) (length-set touched 0 0 ∙ sym (length-replicate (length touched) 0))
    (λ i h. let l : i < length touched = rw length-set at h in go i l (ℕ_discrete i 0) ∙ sym (get_or-replicate (length touched) i 0 0 l))
  where
    go : (i : ℕ) → i < length touched → Dec (i ≡ 0) → get_or (set touched 0 0) i 0 ≡ 0
    go i l (yes e) = ap (λ (k : ℕ). get_or (set touched 0 0) k 0) e ∙ get_or-set_same touched 0 0 0 (omega arith)
    go i l (no n) =
        let e : i ≡ i - 1 + 1 = omega arith in
        get_or-set_other touched 0 i 0 0 n ∙ ap (λ (k : ℕ). get_or touched k 0) e ∙ d.words (i - 1) (omega arith)
