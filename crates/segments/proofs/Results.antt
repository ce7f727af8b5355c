-- What read and write come to, for each way that they can go.
-- Assumes nothing.
use Prim.Native.Nat.{ℕ, ◌<◌, ◌≤◌}
use mathlib.Core.Path.{◌≡◌, ap, ◌∙◌}
use mathlib.Core.Bool.{not}
use mathlib.Core.List.{List, [], ◌∷◌}
use lib.ListN.{get_or}
use borrow.Author.Tests.{lt-ltb, le-ltb}
use Rattle.std.specs.Prelude.{Ok, Err, IsErrAnd}
use Rattle.things.specs.declared.Capability.{Capability}
use Rattle.things.specs.declared.Refusal.{Refusal}
use Rattle.things.specs.declared.Refusal.TheVariants.{Outside}
use Rattle.things.specs.Answers.{Answer}
use Rattle.things.specs.Rights.{READ, WRITE}
use Rattle.rules.specs.Machine.{WORDS, SEGMENT, Machine, slot_of, inside, words_of}
use Rattle.rules.specs.Changes.{set_word}
use Rattle.rules.specs.Checks.{done, checked}
use Rattle.rules.specs.Calls
use Rattle.rules.specs.Calls.{named, word_at}
use Rattle.tables.specs.Layout.{machine}
use Rattle.tables.specs.Positions.{store}
use Rattle.access.specs.Lent.{Lent}
use Rattle.access.specs.declared.which.Package.{Package}
use Rattle.access.specs.declared.which.Place.{Place}
use Rattle.checks.specs.Ends.{Ends}
use Rattle.checks.specs.Rooms.{LivesAt}
use Rattle.checks.specs.Verdicts.{passes, stops, verdict}
use Rattle.checks.proofs.Deciding.{refusing, letting, acting, past, passed, ends_early, ends-refused, ends-done}
use Rattle.checks.proofs.Checking.{Opened, opened-by, opened-is, slot-sound-shown}
use Rattle.checks.proofs.Leaving.{word-left, as_is}

module _ (t : List ℕ) (w : Lent t) (p : Package) (a : ℕ) where
  abbrev M : Machine
  M = machine t

  abbrev c₀ : Capability
  c₀ = slot_of M p.number a

  -- What a slot's passed check tells of the segment that it finds.
  pub segment-opened : (right : ℕ) (at : Place) → verdict (checked M c₀ right SEGMENT) ≡ passes → LivesAt M c₀.object SEGMENT at → Opened M c₀ right SEGMENT at.maker at.number
  segment-opened right at h l = opened-by t w c₀ right SEGMENT at.maker at.number (slot-sound-shown t w p.number a p.in_range) h l.0 l.1

  pub read_early : (b : ℕ) (why : Refusal) (r : Answer) → verdict (checked M c₀ READ SEGMENT) ≡ stops why → IsErrAnd r (λ e. e ≡ why) → Ends (Calls.read M p.number a b 0 0 0) t t r
  unfolding Calls.read
  read_early b why r h e = ends_early (checked M c₀ READ SEGMENT) _ _ t why r h e

  pub write_early : (b c : ℕ) (why : Refusal) (r : Answer) → verdict (checked M c₀ WRITE SEGMENT) ≡ stops why → IsErrAnd r (λ e. e ≡ why) → Ends (Calls.write M p.number a b c 0 0) t t r
  unfolding Calls.write
  write_early b c why r h e = ends_early (checked M c₀ WRITE SEGMENT) _ _ t why r h e

  module _ (b : ℕ) (at : Place) where
    pub read_outside : verdict (checked M c₀ READ SEGMENT) ≡ passes → WORDS ≤ b → Ends (Calls.read M p.number a b 0 0 0) t t (Err Outside)
    unfolding Calls.read
    read_outside h g =
        ends-refused _ t Outside (past (checked M c₀ READ SEGMENT) _ _ (passed (checked M c₀ READ SEGMENT) h) ∙ refusing _ _ _ (ap not (le-ltb b WORDS g)))

    read_done : Opened M c₀ READ SEGMENT at.maker at.number → b < WORDS → Calls.read M p.number a b 0 0 0 ≡ done (get_or (words_of (inside M at.maker at.number)) b 0) []
    unfolding Calls.read word_at
    read_done o h = past (checked M c₀ READ SEGMENT) _ _ o.all-passed ∙ letting _ _ _ (ap not (lt-ltb b WORDS h)) ∙ acting _ ∙ rw (opened-is M p.number a READ SEGMENT at.maker at.number o)

    pub read_ends : (x : ℕ) → verdict (checked M c₀ READ SEGMENT) ≡ passes → LivesAt M c₀.object SEGMENT at → b < WORDS → x ≡ get_or (words_of (inside M at.maker at.number)) b 0 → Ends (Calls.read M p.number a b 0 0 0) t t (Ok x)
    read_ends x h l g e = rw e (ends-done _ t t _ [] (read_done (segment-opened READ at h l) g) (as_is t w _))

    pub write_outside : (c : ℕ) → verdict (checked M c₀ WRITE SEGMENT) ≡ passes → WORDS ≤ b → Ends (Calls.write M p.number a b c 0 0) t t (Err Outside)
    unfolding Calls.write
    write_outside c h g =
        ends-refused _ t Outside (past (checked M c₀ WRITE SEGMENT) _ _ (passed (checked M c₀ WRITE SEGMENT) h) ∙ refusing _ _ _ (ap not (le-ltb b WORDS g)))

    write_done : (c : ℕ) → Opened M c₀ WRITE SEGMENT at.maker at.number → b < WORDS → Calls.write M p.number a b c 0 0 ≡ done 0 (set_word at.maker at.number b c ∷ [])
    unfolding Calls.write named
    write_done c o h = past (checked M c₀ WRITE SEGMENT) _ _ o.all-passed ∙ letting _ _ _ (ap not (lt-ltb b WORDS h)) ∙ acting _ ∙ rw (o.maker-is, o.place_is)

    pub write_ends : (c : ℕ) (u : List ℕ) → verdict (checked M c₀ WRITE SEGMENT) ≡ passes → LivesAt M c₀.object SEGMENT at → b < WORDS → u ≡ store t (set_word at.maker at.number b c) → Ends (Calls.write M p.number a b c 0 0) t u (Ok 0)
    write_ends c u h l g e =
        let o = segment-opened WRITE at h l in
        ends-done _ t u 0 _ (write_done c o g) (e ∙ word-left t w 0 at.maker at.number b c o.maker-below o.place-below g o.kind-is)
