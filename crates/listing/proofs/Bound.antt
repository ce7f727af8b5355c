-- How long a listing gets: each place is opened once.
-- Assumes nothing.
use Prim.Native.Nat.{ℕ, zero, suc, ◌+◌, ◌*◌, ◌<◌, ◌≤◌}
use native.Mathlib.Omega.{arith}
use native.Mathlib.Nat.{suc-mul, add_comm}
use mathlib.Core.Path.{◌≡◌, refl, ◌∙◌}
use mathlib.Core.Bool.{Bool, true, false}
use mathlib.Core.List.{List, [], ◌∷◌}
use lib.ListN.{length, get_or, set, length-set}
use Rattle.things.specs.declared.Capability.{Capability}
use Rattle.things.specs.Lists.{every, up_from}
use Rattle.things.specs.Rights.{is_null}
use Rattle.things.proofs.ListLaws.{and_parts}
use Rattle.rules.specs.Machine.{segment, directory, type, extended, Place, empty, holding, Machine, package_of, inside, kind_of, place_of, living}
use Rattle.rules.specs.Sound.{issued, capability_sound, sound}
use Rattle.text.specs.Text.{say, number, texts, ◌▹◌}
use Rattle.text.specs.Tree.{Listing, quiet, and_then, each, sign_of, place_number, item, within, opened_in, opened, tree, trees, all_places}
use Rattle.tables.specs.Layout.{machine}
use Rattle.access.specs.Lent.{Lent}
use Rattle.print.specs.Writing.{number_then}
use Rattle.print.proofs.Writing.{both-length, texts-bound}
use Rattle.print.proofs.Decimal.{number-length}
use Rattle.print.proofs.Lines.{tree-line-length}
use Rattle.listing.specs.Walking.{line_at, part, opens, unopened, tree_size, trees_size}
use Rattle.listing.proofs.Shows.{sound-of, capability-small, within-sound, within-few, slots-long, slots-sound}
use Rattle.listing.proofs.Lines.{unopened-set, null-line, line-is, item-open, item-shut, open-place}
use Rattle.listing.proofs.Going.{none, none-opened}

-- From the marks m, L has at most b bytes, and 320 more for each place that it opens.
pub record Within (m : List Bool) (L : Listing) (b : ℕ) : Type 0 where
  pub bytes : length L.text + 320 * unopened L.marks ≤ 320 * unopened m + b
  pub all : length L.marks ≡ all_places

within_none : (m : List Bool) (b : ℕ) → length m ≡ all_places → Within m (quiet m) b
within_none m b h = record { bytes = omega arith; all = h }

within-then : (m : List Bool) (A : Listing) (f : List Bool → Listing) (a b : ℕ) → Within m A a → Within A.marks (f A.marks) b → Within m (and_then A f) (a + b)
unfolding and_then
within-then m A f a b x y =
    let e = both-length A.text (f A.marks).text in
    record { bytes = omega (arith, x.bytes, y.bytes); all = y.all }

-- Parts of at most b bytes each.
within-each : (P : Capability → Bool) (b : ℕ) (f : Capability → List Bool → Listing) → ((c : Capability) (m : List Bool) → P c ≡ true → length m ≡ all_places → Within m (f c m) b) →
    (cs : List Capability) → every P cs ≡ true → (m : List Bool) → length m ≡ all_places → Within m (each f cs m) (length cs * b)
unfolding each every
within-each P b f h [] g m k = within_none m _ k
within-each P b f h (c ∷ cs) g m k =
    let p = and_parts (P c) _ g in
    let a = h c m p.0 k in
    let r = within-each P b f h cs p.1 (f c m).marks a.all in
    let e : suc (length cs) * b ≡ b + length cs * b = suc-mul (length cs) b ∙ add_comm (length cs * b) b in
    rw e (within-then m (f c m) (each f cs) b (length cs * b) a r)

few-kinds : (x : Place) → kind_of x ≤ 4
unfolding kind_of
few-kinds empty = omega arith
few-kinds (holding s (segment ws)) = omega arith
few-kinds (holding s (directory m es)) = omega arith
few-kinds (holding s type) = omega arith
few-kinds (holding s (extended o m cs)) = omega arith

module _ (M : Machine) (h : sound M ≡ true) (d : ℕ) (flat : d < 1000) (c : Capability) (m : List Bool) (ok : capability_sound (issued M) c ≡ true) (n : length m ≡ all_places) where
  -- a capability's line
  line-short : length (line_at M d c m).text ≤ 20
  line-short = go (is_null c) refl
    where
      go : (b : Bool) → is_null c ≡ b → length (line_at M d c m).text ≤ 20
      go true e = rw (null-line M d c m e) (omega arith)
      go false e =
          let s = capability-small M h c ok e in
          let k = few-kinds (living M c.object) in
          let sign = sign_of (living M c.object) (get_or m (place_number M c.object) false) in
          rw (line-is M d c m sign e refl)
          (tree-line-length d c (kind_of (living M c.object)) sign flat (omega (arith, s.maker)) s.serial (omega arith) s.rights)

  module _ (f : Place → List Bool → Listing) (inner : (p i : ℕ) (m : List Bool) → p < 8 → length m ≡ all_places → Within m (f (inside M p i) m) 320) where
    item-opened : opens M c m ≡ true → Within m (item f M d c m) 20
    unfolding and_then living
    item-opened e =
        let k = place_number M c.object in
        let o = open-place M h d c m ok e in
        let b = inner c.object.0 (place_of M c.object) (set m k true) o.home (length-set m k true ∙ n) in
        let u : suc (unopened (set m k true)) ≡ unopened m = unopened-set m k (omega (arith, o.home, o.place)) o.unseen in
        let x = both-length (line_at M d c m).text (f (living M c.object) (set m k true)).text in
        rw (item-open M d c m f e) (record { bytes = omega (arith, b.bytes, line-short); all = b.all })

    item-within : Within m (item f M d c m) 20
    item-within = go (opens M c m) refl
      where
        go : (b : Bool) → opens M c m ≡ b → Within m (item f M d c m) 20
        go true e = item-opened e
        go false e = rw (item-shut M d c m f e) (record { bytes = omega (arith, line-short); all = n })

opened-bound : (M : Machine) → sound M ≡ true → (most d p i : ℕ) (m : List Bool) → most + d < 1000 → p < 8 → length m ≡ all_places → Within m (opened_in most M d (inside M p i) m) 320
unfolding opened_in
opened-bound M h zero d p i m deep l n = within_none m 320 n
opened-bound M h (suc most) d p i m deep l n =
    let w = within-each (capability_sound (issued M)) 20 (item (opened_in most M (d + 1)) M d)
    (λ c k ok e. item-within M h d (omega arith) c k ok e (opened_in most M (d + 1))
    (λ q j k l e. opened-bound M h most (d + 1) q j k (omega arith) l e))
    (within (inside M p i)) (within-sound M h p i) m n in
    let few = within-few M h p i l in
    record { bytes = omega (arith, w.bytes); all = w.all }

module _ (M : Machine) (h : sound M ≡ true) (p : ℕ) (l : p < 8) where
  slots-bound : length (each (part M 0) (package_of M p).slots none).text ≤ 20 * (16 + 16 * all_places)
  unfolding opened
  slots-bound =
      let w = within-each (capability_sound (issued M)) 20 (part M 0)
      (λ c k ok e. item-within M h 0 (omega arith) c k ok e (opened M 1)
      (λ q j k l e. opened-bound M h 128 1 q j k (omega arith) l e))
      (package_of M p).slots (slots-sound M h p l) none refl in
      let n = slots-long M h p l in
      omega (arith, w.bytes, none-opened)

  pub tree-bound : length (tree M p) ≤ tree_size
  unfolding tree number
  tree-bound =
      let a = slots-bound in
      let n = number-length 0 p 10 (omega arith) in
      let e1 = both-length (say "P ") (number_then p 10 ▹ (each (part M 0) (package_of M p).slots none).text) in
      let e2 = both-length (number_then p 10) (each (part M 0) (package_of M p).slots none).text in
      omega arith

-- The eight packages.
abbrev pub eight : List ℕ
eight = up_from 8 0 (λ p. p)

pub eight-long : length eight ≡ 8
unfolding up_from
eight-long = refl

pub eight-at : (p : ℕ) → p < 8 → get_or eight p 0 ≡ p
unfolding up_from
eight-at zero l = refl
eight-at (suc zero) l = refl
eight-at (suc (suc zero)) l = refl
eight-at (suc (suc (suc zero))) l = refl
eight-at (suc (suc (suc (suc zero)))) l = refl
eight-at (suc (suc (suc (suc (suc zero))))) l = refl
eight-at (suc (suc (suc (suc (suc (suc zero)))))) l = refl
eight-at (suc (suc (suc (suc (suc (suc (suc zero))))))) l = refl
eight-at (suc (suc (suc (suc (suc (suc (suc (suc p)))))))) l = let z : ⊥ = omega arith in absurd z

pub trees-bound : (M : Machine) → sound M ≡ true → length (trees M) ≤ trees_size
unfolding trees
trees-bound M h =
    let b = texts-bound (tree M) eight 0 tree_size eight (λ p k. rw (eight-at p (omega (arith, eight-long))) (tree-bound M h p (omega (arith, eight-long)))) in
    omega (arith, eight-long)

-- A buffer of that size has room for the listing of any well-formed tables.
pub trees-room : {t : List ℕ} (l : List ℕ) → Lent t → trees_size ≤ length l → length (texts (tree (machine t)) eight) ≤ length l
unfolding trees
trees-room {t} l h r = let few = trees-bound (machine t) (sound-of t h) in omega (arith, few, r)
