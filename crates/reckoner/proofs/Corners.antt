-- Cards are meant, and corners decide nothing where nothing is laid by them (specs/Corners.antt). Assumes nothing.
use mathlib.Core.Path.{◌≡◌, refl, ap, ◌∙◌}
use mathlib.Core.List.{List, [], ◌∷◌}
use lib.IntN.{ℤ, pos, negsuc, ◌+ℤ◌}
use Rattle.cells.specs.declared.Corner.{Corner}
use Rattle.laying.specs.Laying.{Laying}
use Rattle.laying.specs.Placed.{placed}
use Rattle.fault.specs.Check.{Check}
use Rattle.std.specs.Prelude.{Ok, Err}
use Rattle.ink.specs.Lent.{Lent}
use Rattle.mask.specs.Calls.{Drawing, draw_answer}
use Rattle.mask.proofs.Causes.{can_draw}
use Rattle.mask.proofs.PlacedCauses.{can_lay_placed}
use Rattle.reckoner.specs.Reckoner.{Cell, Held, Place, running, next, Two, of, put, record_of, at_first, drawn_held, alone, meets, laid_held, laid_placed}
use Rattle.reckoner.specs.Reckoner.{Call, draw, lay, lay_placed, answer, answers, step, reckoned, Given, Meant}
use Rattle.reckoner.specs.Claim.{Buffers, Scratches, buffers_after, buffers_after_all}
use Rattle.reckoner.specs.Corners.{DrawingAt, record_given, others_laid, CanPlace, AllPlaced, AllDone, CardsAreMeant}
use Rattle.reckoner.specs.Corners.{SameButCorners, no_more, drawn, laid, scratch_too, SameMask, SameMasks, CornersDecideNothing}

-- ---- cards are meant

module _ (lengths : Two Lent) where
  meant_done : (c : Call) (cs : List Call) (held : Two Held) → answer lengths c ≡ Ok tt → Given (Ok tt) c held → Meant lengths cs (step (Ok tt) c held) → Meant lengths (c ∷ cs) held
  meant_done c cs held e g m = rw e (g, m)

  module _ (first : DrawingAt) (can : CanPlace lengths.at_running first) where
    lay_done : (f : DrawingAt) → CanPlace lengths.at_next f → answer lengths (lay_placed (placed (record_given first) (record_given f))) ≡ Ok tt
    lay_done f c = can_lay_placed (placed (record_given first) (record_given f)) lengths.at_running lengths.at_next.mask (record {
      corner_allowed = can.1;
      other_corner_allowed = c.1;
      can_lay = record { size_allowed = can.0.size_allowed; other_allowed = c.0.size_allowed; enough = can.0.enough; other_cells = c.0.enough.cells };
    })

    others_meant : (fs : List DrawingAt) → AllPlaced lengths.at_next fs → (held : Two Held) → record_given first ≡ record_of held.at_running
        → Meant lengths (others_laid (record_given first) fs) held
    others_meant [] all held r = tt
    others_meant (f ∷ fs) (c, all) held r =
        let drawn = put next (drawn_held f.corner f.drawing) held in
        let laid = lay_placed (placed (record_given first) (record_given f)) in
        let others = others_laid (record_given first) fs in
        meant_done (draw next f.corner f.drawing) (laid ∷ others) held (can_draw f.drawing lengths.at_next c.0) tt
        (meant_done laid others drawn (lay_done f c) (r, refl)
        (others_meant fs all (put running (laid_placed drawn.at_running drawn.at_next) drawn) r))

    others_done : (fs : List DrawingAt) → AllPlaced lengths.at_next fs → AllDone (answers lengths (others_laid (record_given first) fs))
    others_done [] all = tt
    others_done (f ∷ fs) (c, all) = (can_draw f.drawing lengths.at_next c.0, (lay_done f c, others_done fs all))

pub cards_are_meant : CardsAreMeant
cards_are_meant = record {
  meant = λ lengths first fs can all held.
      meant_done lengths (draw running first.corner first.drawing) (others_laid (record_given first) fs) held (can_draw first.drawing lengths.at_running can.0) tt
      (others_meant lengths first can fs all (put running (drawn_held first.corner first.drawing) held) refl);
  done = λ lengths first fs can all. (can_draw first.drawing lengths.at_running can.0, others_done lengths first can fs all);
}

-- ---- corners decide nothing where nothing is laid by them

put_same : (p : Place) {h k : Two Held} (a b : Held) → SameMasks h k → SameMask a b → SameMasks (put p a h) (put p b k)
put_same running a b s e running = e
put_same running a b s e next = s next
put_same next a b s e running = s running
put_same next a b s e next = e

meets_same : (o q : Held) → SameMask o q → {a b : Cell} → a ≡ b → (x y : ℤ) → meets o a x y ≡ meets q b x y
meets_same o q m e (pos x) (pos y) = rw (m.0, m.1 x y, e) refl
meets_same o q m e (pos x) (negsuc y) = ap alone e
meets_same o q m e (negsuc x) y = ap alone e

-- a step of both
draw_same : (o : Check) (p : Place) (one other : Corner) (d : Drawing) {h k : Two Held} → SameMasks h k → SameMasks (step o (draw p one d) h) (step o (draw p other d) k)
draw_same (Err f) p one other d s = s
draw_same (Ok _) p one other d s = put_same p (drawn_held one d) (drawn_held other d) s (refl, λ column row. refl)

lay_same : (o : Check) (l : Laying) {h k : Two Held} → SameMasks h k → SameMasks (step o (lay l) h) (step o (lay l) k)
lay_same (Err f) l s = s
lay_same (Ok _) l {h} {k} s =
    put_same running (laid_held h.at_running h.at_next l.offset) (laid_held k.at_running k.at_next l.offset) s (
      (s running).0,
      λ column row. meets_same h.at_next k.at_next (s next) ((s running).1 column row) (pos column +ℤ l.offset.x) (pos row +ℤ l.offset.y),
    )

lay_given : (o : Check) (l : Laying) {h k : Two Held} → SameMasks h k → Given o (lay l) h → Given o (lay l) k
lay_given (Err f) l s g = g
lay_given (Ok _) l s g = (g.0 ∙ (s running).0, g.1 ∙ (s next).0)

draw_given : (o : Check) (p : Place) (corner : Corner) (d : Drawing) (held : Two Held) → Given o (draw p corner d) held
draw_given (Err f) p corner d held = tt
draw_given (Ok _) p corner d held = tt

module _ (lengths : Two Lent) where
  same_answers : {cs ds : List Call} → SameButCorners cs ds → answers lengths cs ≡ answers lengths ds
  same_answers no_more = refl
  same_answers (drawn p one other d same) = ap (λ (os : List Check). draw_answer d (of p lengths) ∷ os) (same_answers same)
  same_answers (laid l same) = ap (λ (os : List Check). answer lengths (lay l) ∷ os) (same_answers same)

  meant_too : {cs ds : List Call} → SameButCorners cs ds → {h k : Two Held} → SameMasks h k → Meant lengths cs h → Meant lengths ds k
  meant_too no_more s m = tt
  meant_too (drawn p one other d same) {h} {k} s m =
      let o = draw_answer d (of p lengths) in
      (draw_given o p other d k, meant_too same (draw_same o p one other d s) m.1)
  meant_too (laid l same) s m = let o = answer lengths (lay l) in (lay_given o l s m.0, meant_too same (lay_same o l s) m.1)

  same_shares : {cs ds : List Call} → SameButCorners cs ds → {h k : Two Held} → SameMasks h k → SameMasks (reckoned lengths cs h) (reckoned lengths ds k)
  same_shares no_more s = s
  same_shares (drawn p one other d same) s = same_shares same (draw_same (draw_answer d (of p lengths)) p one other d s)
  same_shares (laid l same) s = same_shares same (lay_same (answer lengths (lay l)) l s)

same_bytes : {cs ds : List Call} (same : SameButCorners cs ds) (s : Scratches cs) (b : Buffers) → buffers_after_all cs s b ≡ buffers_after_all ds (scratch_too same s) b
same_bytes no_more s b = refl
same_bytes (drawn p one other d same) s b = same_bytes same s.1 (buffers_after b (draw p one d) s.0)
same_bytes (laid l same) s b = same_bytes same s.1 (buffers_after b (lay l) s.0)

nothing_differs : SameMasks at_first at_first
nothing_differs p = (refl, λ column row. refl)

pub corners_decide_nothing : CornersDecideNothing
corners_decide_nothing = record {
  same_answers = λ lengths cs ds same. same_answers lengths same;
  same_bytes = λ cs ds same. same_bytes same;
  meant_too = λ lengths cs ds same. meant_too lengths same nothing_differs;
  same_shares = λ lengths cs ds same. same_shares lengths same nothing_differs;
}
