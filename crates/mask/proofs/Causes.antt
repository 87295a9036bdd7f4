-- When a drawing is done, and why it is refused (specs/Laws.antt, DoneExactlyWhen and RefusedExactlyWhen). Assumes
-- nothing.
use mathlib.Core.Path.{◌≡◌, refl, ap, ◌∙◌}
use mathlib.Core.Bool.{Bool, true, false, ◌||◌}
use mathlib.Core.Logic.{◌⊎◌, inl, inr}
use mathlib.Core.List.{List, []}
use Prim.Native.Nat.{ℕ, ◌<◌}
use lib.Dec.{ltb}
use borrow.Author.Tests.{ltb-true, ltb-false, lt-ltb, le-ltb}
use Rattle.fault.specs.declared.Fault.{Fault}
use Rattle.fault.specs.declared.Fault.TheVariants.{MaskTooLarge, BufferTooShort}
use Rattle.word_list.specs.Words.{Group, points_in, Read, ok, fault, read_words}
use Rattle.word_list.specs.Writer.{words_of, Allowed}
use Rattle.word_list.proofs.RoundTrip.{reads_what_is_written}
use Rattle.list_fault.proofs.ListFault.{list_fault as list-fault-law}
use Rattle.cells.specs.Cells.{too_large, SizeAllowed}
use Rattle.cells.proofs.Sizes.{or_true, size_allowed, size_large, allowed_small, large_test}
use Rattle.ink.specs.Lent.{Lent, lent_short, LentEnough}
use Rattle.ink.proofs.Lent.{lent_enough, lent_short_law as short_told, enough_test, short_test}
use Rattle.coverage.specs.Scratch.{floats_needed, counters_needed}
use Rattle.mask.specs.Calls.{Drawing, draw_answer}
use Rattle.mask.specs.Laws.{CanDraw, FirstCause, too_large_law, lent_short_law, list_fault, scratch_short, DoneExactlyWhen, RefusedExactlyWhen}
use Rattle.std.specs.Prelude.{Ok, Err}
use Rattle.mask.proofs.Decided.{Decided, done_only, refused_only}

pub short_true : (a b c d : ℕ) → (a < b) ⊎ (c < d) → (ltb a b || ltb c d) ≡ true
short_true a b c d (inl h) = rw (lt-ltb a b h) refl
short_true a b c d (inr h) = rw (lt-ltb c d h) (or_true (ltb a b))

module _ (d : Drawing) (lent : Lent) where
  -- ---- one of the two is so

  abbrev Told : Type 0
  Told = Decided (CanDraw d lent) (FirstCause d lent)

  by_scratch : SizeAllowed d.size → LentEnough d.size lent → (gs : List Group) → Allowed gs → d.words ≡ words_of gs → Told
  by_scratch s m gs a w = go (ltb d.floats floats) (ltb d.counters counters) refl refl
    where
      floats : ℕ
      floats = floats_needed d.size (points_in gs)

      counters : ℕ
      counters = counters_needed d.size

      go : (p q : Bool) → ltb d.floats floats ≡ p → ltb d.counters counters ≡ q → Told
      go true q h k = inr (BufferTooShort, scratch_short s m gs a w (inl (ltb-true d.floats floats h)))
      go false true h k = inr (BufferTooShort, scratch_short s m gs a w (inr (ltb-true d.counters counters k)))
      go false false h k = inl (record {
        size_allowed = s;
        enough = m;
        groups = gs;
        written = w;
        allowed = a;
        floats = ltb-false d.floats floats h;
        counters = ltb-false d.counters counters k;
      })

  by_list : SizeAllowed d.size → LentEnough d.size lent → (r : Read (List Group)) → read_words d.words ≡ r → Told
  by_list s m (fault f) q = inr (f, list_fault s m (list-fault-law.only d.words f q))
  by_list s m (ok gs rest) q = let w = reads_what_is_written.forth d.words gs rest q in by_scratch s m gs w.2 w.1

  pub decided : Told
  decided = go (too_large d.size) (lent_short d.size lent) refl refl
    where
      go : (p q : Bool) → too_large d.size ≡ p → lent_short d.size lent ≡ q → Told
      go true q h k = inr (MaskTooLarge, too_large_law (size_large d.size h))
      go false true h k = inr (BufferTooShort, lent_short_law (size_allowed d.size h) (short_told d.size lent k))
      go false false h k = by_list (size_allowed d.size h) (lent_enough d.size lent k) (read_words d.words) refl

  -- ---- and tells the answer

  pub can_draw : CanDraw d lent → draw_answer d lent ≡ Ok tt
  can_draw c =
      let r : read_words d.words ≡ ok c.groups [] = ap read_words c.written ∙ reads_what_is_written.back c.groups c.allowed in
      rw (
        allowed_small d.size c.size_allowed,
        enough_test d.size lent c.enough,
        r,
        le-ltb d.floats (floats_needed d.size (points_in c.groups)) c.floats,
        le-ltb d.counters (counters_needed d.size) c.counters,
      ) refl

  pub cannot_draw : (f : Fault) → FirstCause d lent f → draw_answer d lent ≡ Err f
  cannot_draw f (too_large_law h) = rw (large_test d.size h) refl
  cannot_draw f (lent_short_law s m) = rw (allowed_small d.size s, short_test d.size lent m) refl
  cannot_draw f (list_fault s m h) = rw (allowed_small d.size s, enough_test d.size lent m, list-fault-law.always d.words f h) refl
  cannot_draw f (scratch_short s m gs a w h) =
      let r : read_words d.words ≡ ok gs [] = ap read_words w ∙ reads_what_is_written.back gs a in
      let short = short_true d.floats (floats_needed d.size (points_in gs)) d.counters (counters_needed d.size) h in
      rw (allowed_small d.size s, enough_test d.size lent m, r, short) refl

pub done_exactly_when : DoneExactlyWhen
done_exactly_when = record { only = λ d lent. done_only (can_draw d lent) (cannot_draw d lent) (decided d lent); always = can_draw }

pub refused_exactly_when : RefusedExactlyWhen
refused_exactly_when = record { only = λ d lent. refused_only (can_draw d lent) (cannot_draw d lent) (decided d lent); always = cannot_draw }
