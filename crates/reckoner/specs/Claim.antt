-- THE CLAIM about a list of calls (document 01, 'The reckoner', its last paragraph; document 02, change 8: 'The chain
-- with exact shares is to hold for masks placed by corners as well as by plain offsets', and change 9, 'Which columns of a
-- row have ink'): the engine's run of the list, by the definitions that the calls' contracts cite, against the
-- reckoner's. Definitions only.
use Rattle.std.specs.Prelude.{ℕ, ◌<◌, ◌≡◌, List, [], ◌∷◌, length, Float}
use Rattle.fraction.specs.Fraction.{natᶠ, ◌*ᶠ◌, Near}
use Rattle.cells.specs.declared.Size.{Size}
use Rattle.cells.specs.Cells.{byte_at}
use Rattle.ink.specs.Ink.{stretch_at, Scanned}
use Rattle.ink.specs.Lent.{Lent, lent}
use Rattle.ink.specs.Print.{PrintsTheMask}
use Rattle.laying.specs.Laying.{Laying}
use Rattle.laying.specs.Placed.{by_offset}
use Rattle.fault.specs.Check.{Check}
use Rattle.mask.specs.Calls.{Drawing, drawing, outcome_number, draw_answer, mask_after_drawing, lay_answer, mask_after_laying, lay_placed_answer, ink_after_call}
use Rattle.mask.specs.Laws.{DrawNumber, LayNumber, LayPlacedNumber}
use Rattle.reckoner.specs.Reckoner.{Place, running, Two, of, put, at_first, record_of, Call, draw, lay, lay_placed, answers, reckoned, Meant}
use Rattle.reckoner.specs.LastGiven.{LastGiven}

-- ---- the engine's run

-- 'Two mask buffers, of any length and holding anything, are lent throughout.' Each has its ink beside it, which 'lives in
-- lent memory' too
pub record Buffer : Type 0 where
  pub mask : List ℕ
  pub ink : List ℕ

abbrev pub Buffers : Type 0
Buffers = Two Buffer

abbrev pub lent_of : Buffer → Lent
lent_of b = lent b.mask b.ink

abbrev pub HasLengths : Two Lent → Buffers → Type 0
HasLengths lengths b = (p : Place) → lent_of (of p b) ≡ of p lengths

-- scratch of the lengths that a drawing is given: 'It may hold anything on entry.'
pub record Scratch (d : Drawing) : Type 0 where
  pub floats : List Float
  pub counters : List ℕ
  pub floats_long : length floats ≡ d.floats
  pub counters_long : length counters ≡ d.counters

abbrev pub ScratchFor : Call → Type 0
ScratchFor (draw p corner d) = Scratch d
ScratchFor (lay l) = Unit {0}
ScratchFor (lay_placed q) = Unit {0}

abbrev pub Scratches : List Call → Type 0
Scratches [] = Unit {0}
Scratches (c ∷ cs) = ScratchFor c × Scratches cs

-- what the call is given, as its contract says it
abbrev pub given : (d : Drawing) → Scratch d → Drawing
given d s = drawing d.size d.words s.floats s.counters

-- one call: its answer, and the buffers after it
abbrev pub answered : Buffers → (c : Call) → ScratchFor c → Check
answered b (draw p corner d) s = draw_answer (given d s) (lent_of (of p b))
answered b (lay l) s = lay_answer l (lent_of b.at_running) (length b.at_next.mask)
answered b (lay_placed q) s = lay_placed_answer q (lent_of b.at_running) (length b.at_next.mask)

-- a buffer after a call on a mask of this size that has this answer and leaves these bytes
abbrev pub buffer_left : Check → Size → List ℕ → Buffer → Buffer
buffer_left o size mask b = record { mask = mask; ink = ink_after_call o size mask b.ink }

abbrev pub drawn_on : Check → Drawing → Buffer → Buffer
drawn_on o d b = buffer_left o d.size (mask_after_drawing o d b.mask) b

abbrev pub laid_on : Check → Laying → Buffers → Buffer
laid_on o l b = buffer_left o l.size (mask_after_laying o l b.at_running.mask b.at_next.mask) b.at_running

abbrev pub buffers_after : Buffers → (c : Call) → ScratchFor c → Buffers
buffers_after b (draw p corner d) s = put p (drawn_on (answered b (draw p corner d) s) (given d s) (of p b)) b
buffers_after b (lay l) s = put running (laid_on (answered b (lay l) s) l b) b
buffers_after b (lay_placed q) s = put running (laid_on (answered b (lay_placed q) s) (by_offset q) b) b

-- 'Each call gets what the last one left in them'
abbrev pub all_answered : (cs : List Call) → Scratches cs → Buffers → List Check
all_answered [] s b = []
all_answered (c ∷ cs) s b = answered b c s.0 ∷ all_answered cs s.1 (buffers_after b c s.0)

abbrev pub buffers_after_all : (cs : List Call) → Scratches cs → Buffers → Buffers
buffers_after_all [] s b = b
buffers_after_all (c ∷ cs) s b = buffers_after_all cs s.1 (buffers_after b c s.0)

-- ---- the answers in the documents' numbers, each from its cause (mask/specs/Laws.antt), for mask buffers and
-- ink of these lengths
abbrev pub CallNumber : Two Lent → Call → ℕ → Type 0
CallNumber lengths (draw p corner d) n = DrawNumber d (of p lengths) n
CallNumber lengths (lay l) n = LayNumber l lengths.at_running lengths.at_next.mask n
CallNumber lengths (lay_placed q) n = LayPlacedNumber q lengths.at_running lengths.at_next.mask n

abbrev pub CallNumbers : Two Lent → List Call → List ℕ → Type 0
CallNumbers lengths [] [] = Unit {0}
CallNumbers lengths [] (n ∷ ns) = ⊥
CallNumbers lengths (c ∷ cs) [] = ⊥
CallNumbers lengths (c ∷ cs) (n ∷ ns) = CallNumber lengths c n × CallNumbers lengths cs ns

abbrev pub numbers : List Check → List ℕ
numbers [] = []
numbers (o ∷ os) = outcome_number o ∷ numbers os

-- buffers with the same bytes in both masks, whatever their ink holds
abbrev pub SameBytes : Buffers → Buffers → Type 0
SameBytes b d = (p : Place) → (of p b).mask ≡ (of p d).mask

-- ---- the claim, for mask buffers and ink of these lengths
pub record Claim (lengths : Two Lent) (cs : List Call) : Type 0 where
  -- every answer is what the table of causes and its order give
  pub answers_are : (b : Buffers) → HasLengths lengths b → (s : Scratches cs) → all_answered cs s b ≡ answers lengths cs
  -- in numbers, each from its cause: the run gives these numbers and no others
  pub numbers_only : (b : Buffers) → HasLengths lengths b → (s : Scratches cs) → CallNumbers lengths cs (numbers (all_answered cs s b))
  pub numbers_always : (b : Buffers) → HasLengths lengths b → (s : Scratches cs) (ns : List ℕ) → CallNumbers lengths cs ns → numbers (all_answered cs s b) ≡ ns
  -- 'It may hold anything on entry': whatever the scratch held, the same answers, and the same bytes and numbers in all
  -- of both buffers, in the lists not meant too
  pub scratch_never_matters : (b : Buffers) (s t : Scratches cs) → (all_answered cs s b ≡ all_answered cs t b) × (buffers_after_all cs s b ≡ buffers_after_all cs t b)
  -- .. and whatever the ink held, the same answers and the same bytes in all of both masks
  pub ink_never_matters : (b d : Buffers) → HasLengths lengths b → HasLengths lengths d → SameBytes b d → (s t : Scratches cs)
      → (all_answered cs s b ≡ all_answered cs t d) × SameBytes (buffers_after_all cs s b) (buffers_after_all cs t d)
  -- the buffers and their ink keep their lengths
  pub lengths_kept : (b : Buffers) → HasLengths lengths b → (s : Scratches cs) → HasLengths lengths (buffers_after_all cs s b)
  -- what is held of each mask, size and corner, is the record given with its last done drawing
  pub records_held : (p : Place) → LastGiven lengths p cs (record_of (of p (reckoned lengths cs at_first)))
  -- 'After the list each mask cell's byte differs from 255 times its share by at most its allowed difference.'
  pub near : Meant lengths cs at_first → (b : Buffers) → HasLengths lengths b → (s : Scratches cs) (p : Place) →
      let held = of p (reckoned lengths cs at_first) in
      (column row : ℕ) → column < held.size.width → row < held.size.height →
      Near (natᶠ (byte_at held.size (of p (buffers_after_all cs s b)).mask column row)) (natᶠ 255 *ᶠ (held.cell column row).share) (held.cell column row).difference
  -- ink 'equals what a scan of the mask finds, no matter what it held before', at every row of the size held ..
  pub inked : Meant lengths cs at_first → (b : Buffers) → HasLengths lengths b → (s : Scratches cs) (p : Place) →
      let left = of p (buffers_after_all cs s b) in
      Scanned (of p (reckoned lengths cs at_first)).size left.mask left.ink
  -- .. so that 'a print loop that sends only those stretches' prints each mask
  pub prints : Meant lengths cs at_first → (b : Buffers) → HasLengths lengths b → (s : Scratches cs) (p : Place) →
      let left = of p (buffers_after_all cs s b) in
      PrintsTheMask (of p (reckoned lengths cs at_first)).size left.mask left.ink
  -- 'Runs of one list that differ only in what the mask buffers held at first and the scratch held before each drawing
  -- return the same answers and leave the same cells', and the same ink whatever the ink held
  pub alike : Meant lengths cs at_first → (b d : Buffers) → HasLengths lengths b → HasLengths lengths d → (s t : Scratches cs) →
      (all_answered cs s b ≡ all_answered cs t d) × ((p : Place) →
      let size = (of p (reckoned lengths cs at_first)).size in
      let one = of p (buffers_after_all cs s b) in
      let other = of p (buffers_after_all cs t d) in
      ((column row : ℕ) → column < size.width → row < size.height → byte_at size one.mask column row ≡ byte_at size other.mask column row)
      × ((row : ℕ) → row < size.height → stretch_at one.ink row ≡ stretch_at other.ink row))

-- for every list
abbrev pub EveryList : Type 0
EveryList = (lengths : Two Lent) (cs : List Call) → Claim lengths cs
