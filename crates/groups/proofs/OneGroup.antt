-- One group of a list: its edges stored, and its rows added. Assumes nothing.
use mathlib.Core.Path.{◌≡◌, refl, sym, ap, ◌∙◌, subst}
use mathlib.Core.Bool.{Bool, not}
use mathlib.Core.List.{List, []}
use Prim.Native.Nat.{ℕ, ◌+◌, ◌*◌, ◌≤◌}
use native.Mathlib.Omega.{arith}
use lib.IntN.{ℤ, pos}
use lib.ListN.{length, get_or, drop}
use lib.Ieee.{Float}
use Rattle.fault.specs.declared.Fault.{Fault}
use Rattle.std.specs.Prelude.{Result, Ok, Err}
use Rattle.word_list.specs.Words.{Point, Group, is_zero, read_count, read_contours, read_group, read_or, points_of}
use Rattle.word_reader.specs.Reader.{counted_of}
use Rattle.words.specs.Scan.{Fine, end_of}
use Rattle.word_list.specs.Words.{group_points}
use Rattle.words.proofs.Places.{GroupThere, group_there}
use Rattle.cells.specs.declared.Size.{Size}
use Rattle.contour.specs.Contours.{edges_of}
use Rattle.edge.specs.Floats.{Pushed}
use Rattle.coverage.specs.Scratch.{Room, Clean}
use Rattle.coverage.specs.Resolving.{GroupStored, SomeGroupStored}
use Rattle.coverage.proofs.Groups.{group_stored, still_clean, room_same}
use Rattle.groups.specs.Steps.{group_at, GroupFine}

same_count : {r : Result ℕ Fault} {m n : ℕ} → r ≡ Ok m → r ≡ Ok n → m ≡ n
same_count e f = cc

not_refused : {r : Result ℕ Fault} {m : ℕ} {f : Fault} → r ≡ Ok m → r ≡ Err f → ⊥
not_refused e f = let z : ◌≡◌ {A = ℕ} 0 1 = cc in omega arith

-- a group at a place, whose count word is n
pub record GroupRead (ws : List ℤ) (at n : ℕ) : Type 0 where
  pub there : GroupThere ws at
  pub same : n ≡ there.count

-- what was read as its count word is a count
module _ {ws : List ℤ} {at points : ℕ} (g : GroupFine ws at points) {r : Result ℕ Fault} (is : r ≡ counted_of (read_count (drop (at + 1) ws))) where
  there : GroupThere ws at
  there = group_there ws at g.inside g.fine

  pub group_read : {n : ℕ} → r ≡ Ok n → GroupRead ws at n
  group_read e = record { there = there; same = same_count e (is ∙ there.read) }

  pub group_counted : {f : Fault} → r ≡ Err f → ⊥
  group_counted e = not_refused (is ∙ there.read) e

-- n contours from a place on
abbrev contours_at : List ℤ → ℕ → ℕ → List (List Point)
contours_at ws at n = read_or [] (read_contours n 0 (drop at ws))

-- the group at a place, whose contours are n by their count word
abbrev group_of : List ℤ → ℕ → ℕ → Group
group_of ws at n = record { rule = get_or ws at (pos 0); contours = contours_at ws (at + 2) n }

module _ {mask : List ℕ} {fs : List Float} {cs : List ℕ} {size : Size} {points : ℕ} {ws : List ℤ} {at : ℕ} {n : ℕ}
    (room : Room mask fs cs size points) (g : GroupFine ws at points) (read : GroupRead ws at n) where
  whole : group_at ws at ≡ group_of ws at n
  whole = read.there.whole ∙ ap (group_of ws at) (sym read.same)

  few_points : points_of (contours_at ws (at + 2) n) ≤ points
  few_points = subst (λ (h : Group). group_points h ≤ points) whole g.few

  pub contours_fine : Fine (read_contours n 0 (drop (at + 2) ws))
  contours_fine = rw read.same read.there.contours

  pub contours_inside : at + 2 ≤ length ws
  contours_inside = read.there.within

  pub contours_room : size.width + 5 * points_of (contours_at ws (at + 2) n) ≤ length fs
  contours_room = let a = few_points in let b = room.floats_enough in omega arith

  pub contours_end : end_of (length ws) (read_contours n 0 (drop (at + 2) ws)) ≡ end_of (length ws) (read_group 0 (drop at ws))
  contours_end = rw read.same (sym read.there.end)

  -- its edges are pushed behind the row's cells
  module _ {gs : List Float} {count : ℕ} (long : length gs ≡ length fs)
      (p : Pushed fs gs size.width 0 count (points_of (contours_at ws (at + 2) n)) (edges_of size.height (contours_at ws (at + 2) n))) where
    pub stored_few : count ≤ points
    stored_few = let a = few_points in let b = p.few in omega arith

    pub stored_clean : Clean fs cs size → Clean gs cs size
    stored_clean c = still_clean size (group_of ws at n) p long c

    pub stored_room : Room mask gs cs size points
    stored_room = room_same refl long refl room

    pub stored : {rule : Bool} → rule ≡ not (is_zero (get_or ws at (pos 0))) → GroupStored gs size count rule (group_at ws at)
    stored e = rw whole (group_stored size (group_of ws at n) p e)

    pub some_stored : {rule : Bool} → rule ≡ not (is_zero (get_or ws at (pos 0))) → SomeGroupStored gs size count rule
    some_stored e = record { group = group_at ws at; stored = stored e }
