-- A list without a fault, and the scratch that it needs. Assumes nothing.
use mathlib.Core.Path.{◌≡◌, sym, ap, ◌∙◌}
use mathlib.Core.Logic.{inl, inr}
use mathlib.Core.List.{List, []}
use Prim.Native.Nat.{ℕ, ◌≤◌, ◌<◌}
use native.Mathlib.Omega.{arith}
use lib.IntN.{ℤ}
use lib.ListN.{length, take}
use lib.Ieee.{Float}
use Rattle.fault.specs.declared.Fault.TheVariants.{BufferTooShort}
use Rattle.word_list.specs.Words.{points_in, read_words, groups_of}
use Rattle.words.specs.Scan.{scan_of}
use Rattle.word_list.specs.Writer.{words_of, Allowed}
use Rattle.words.proofs.Places.{fine_read, read_fine, read_value, words_few}
use Rattle.word_list.proofs.RoundTrip.{reads_what_is_written}
use Rattle.words.proofs.Steps.{scan_at, scanned}
use Rattle.cells.specs.declared.Size.{Size}
use Rattle.cells.specs.Cells.{cells_of, SizeAllowed}
use Rattle.cells.proofs.Sizes.{cells_long}
use Rattle.ink.specs.Lent.{Lent, LentEnough}
use Rattle.coverage.specs.Scratch.{floats_needed, counters_needed, Room}
use Rattle.mask.specs.Calls.{Drawing}
use Rattle.mask.specs.Laws.{CanDraw, FirstCause, scratch_short}
use Rattle.groups.specs.Steps.{ListCounted}

-- a list that was read without a fault
pub list_counted : (ws : List ℤ) (k points : ℕ) → scan_of (length ws) points_in 0 (read_words ws) ≡ scanned k points → ListCounted ws points
list_counted ws k points e =
    let w = scan_at (length ws) points_in 0 (read_words ws) k points e in
    let v = read_value [] (read_words ws) w.value w.rest w.read in
    let c : points ≡ points_in w.value = (let a = w.count in omega arith) in
    record {
      fine = read_fine (read_words ws) w.value w.rest w.read;
      count = c ∙ ap points_in (sym v);
      few = let l = words_few ws w.value w.rest w.read in omega arith;
    }

written : (ws : List ℤ) {points : ℕ} → ListCounted ws points → (ws ≡ words_of (groups_of ws)) × Allowed (groups_of ws)
written ws l =
    let r = fine_read [] (read_words ws) l.fine in
    let w = reads_what_is_written.forth ws (groups_of ws) r.0 r.1 in
    (w.1, w.2)

module _ (d : Drawing) (lent : Lent) {points : ℕ} (s : SizeAllowed d.size) (m : LentEnough d.size lent) (l : ListCounted d.words points) where
  pub floats_short : d.floats < floats_needed d.size points → FirstCause d lent BufferTooShort
  floats_short h = let w = written d.words l in let c = l.count in scratch_short s m (groups_of d.words) w.1 w.0 (inl (omega arith))

  pub counters_short : d.counters < counters_needed d.size → FirstCause d lent BufferTooShort
  counters_short h = let w = written d.words l in scratch_short s m (groups_of d.words) w.1 w.0 (inr h)

  pub scratch_enough : floats_needed d.size points ≤ d.floats → counters_needed d.size ≤ d.counters → CanDraw d lent
  scratch_enough h k =
      let w = written d.words l in
      let c = l.count in
      record { size_allowed = s; enough = m; groups = groups_of d.words; written = w.0; allowed = w.1; floats = omega arith; counters = k }

-- there is room to draw
pub room_there : {size : Size} {points : ℕ} (mask : List ℕ) {fs : List Float} {cs : List ℕ} → SizeAllowed size → points ≤ 2048 → cells_of size ≤ length mask
    → floats_needed size points ≤ length fs → counters_needed size ≤ length cs → Room (take (cells_of size) mask) fs cs size points
room_there {size} mask a p m f c =
    record { size_allowed = a; cells = cells_long size mask m; few = p; floats_enough = f; counters_enough = c }
