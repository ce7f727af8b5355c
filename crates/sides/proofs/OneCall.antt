-- One call under the premises: it keeps them, and a far one changes no near package.
-- Assumes nothing.
use Prim.Native.Nat.{ℕ, ◌+◌, ◌≤◌, ◌<◌}
use native.Mathlib.Omega.{arith}
use mathlib.Core.Path.{◌≡◌, refl, sym, ap, subst, ◌∙◌}
use mathlib.Core.Logic.{◌⊎◌, inl, inr, ⊎_elim}
use mathlib.Core.Bool.{Bool, true, false, not, ◌&&◌, ◌||◌}
use mathlib.Core.List.{List, [], ◌∷◌}
use lib.Bits.{bit_and, and_le_l}
use lib.Seq.{get_or-set_other}
use lib.Dec.{eqb, leb}
use borrow.Author.Tests.{eqb-true, eq-eqb, lt-ltb, leb-true, le-leb, ne_eqb}
use Rattle.things.specs.declared.Capability.{Capability}
use Rattle.things.specs.Lists.{pick, some}
use Rattle.things.specs.Rights.{maker, serial, null, is_null, has_right, restricted, STORE, KEEP, READ, WRITE, REMOVE, DELETE, NONE}
use Rattle.things.proofs.RightLaws.{null_is, is-null, restricted-null}
use Rattle.things.proofs.ListLaws.{and_parts, and_both, never}
use Rattle.rules.specs.Machine.{PACKAGES, SEGMENT, DIRECTORY, EXTENDED, Machine, nobody, package_of, slot_of, kind_of, place_of, living}
use Rattle.rules.specs.Sound.{issued, is_rights, capability_sound, sound}
use Rattle.rules.specs.Changes.{Change, target, apply, apply_all}
use Rattle.rules.specs.Checks.{Result, done, answer_of, after, gone, is_kind}
use Rattle.rules.specs.Calls.{named, opened, made, listed, listed_object, copied}
use Rattle.rules.specs.Step.{Call, SixteenBit, step}
use Rattle.rules.proofs.Inside.{sound-names}
use Rattle.rules.proofs.KeepCalls.{step_keeps}
use Rattle.rules.proofs.Decide.{Each}
use Rattle.sides.specs.Sides.{Split, names_near, reading_only, lives_as, is_done, hands_over, not_far_to_near, is_such, gives_such, side_of, is_near}
use Rattle.sides.proofs.Deeds
use Rattle.sides.proofs.Deeds.{Can, Own, Doing, stopped, handing, owning, step-does}
use Rattle.sides.proofs.Places.{held}
use Rattle.sides.proofs.Dead.{each_map, step-kinds, issued-upto}
use Rattle.sides.proofs.Has.{AllHave, have-all, Container, Free, own-brings}
use Rattle.sides.proofs.Twin.{living-in, entry_in}
use Rattle.sides.proofs.Confined.{allowed, Such, FarOnly, May, Kept, all_sound, such-of, on-near}

-- ---- rights and null
pub right-within : (c : Capability) (right : ℕ) → has_right c right ≡ true → right ≤ c.rights
unfolding has_right
right-within c right h = let e = eqb-true (bit_and c.rights right) right h in let l = and_le_l c.rights right in omega arith

not_null : (c : Capability) (right : ℕ) → 0 < right → has_right c right ≡ true → is_null c ≡ false
not_null c right l h = go (is_null c) refl
  where
    go : (b : Bool) → is_null c ≡ b → is_null c ≡ false
    go false e = e
    go true e =
        let u = right-within c right h in
        let v : c.rights ≡ 0 = ap (λ (d : Capability). d.rights) (null_is c e) in
        let z : ⊥ = omega arith in absurd z

unrestricted : (c : Capability) (mask : ℕ) → is_null (restricted c mask) ≡ false → is_null c ≡ false
unrestricted c mask h = go (is_null c) refl
  where
    go : (b : Bool) → is_null c ≡ b → is_null c ≡ false
    go false e = e
    go true e =
        let f : restricted c mask ≡ null = ap (λ (d : Capability). restricted d mask) (null_is c e) ∙ restricted-null mask in
        never (sym (ap is_null f ∙ is-null) ∙ h)

module _ (near : Split) (c : Capability) (mask : ℕ) where
  near-restricted : near (maker c.object) ≡ true → near (maker (restricted c mask).object) ≡ true
  unfolding restricted
  near-restricted n = n

  near-unrestricted : near (maker (restricted c mask).object) ≡ true → near (maker c.object) ≡ true
  unfolding restricted
  near-unrestricted n = n

-- Such a capability on a living object has none of the rights from 8 on, and names nothing of a barred kind.
pub such-lives : (kinds : List ℕ) (near : Split) (M : Machine) (c : Capability) → Such kinds near M c → gone M c.object ≡ false → (c.rights ≤ STORE + KEEP + READ) × (not (some (eqb (kind_of (living M c.object))) kinds) ≡ true)
unfolding living
such-lives kinds near M c k g =
    let p = and_parts (leb c.rights (STORE + KEEP + READ)) _ (k (place_of M c.object) (held M c.object g)) in
    (leb-true _ _ p.0, p.1)

such-restricted : (kinds : List ℕ) (near : Split) (M : Machine) (c : Capability) (mask : ℕ) → Such kinds near M c → Such kinds near M (restricted c mask)
unfolding restricted
such-restricted kinds near M c mask k i u =
    let p = and_parts (leb c.rights (STORE + KEEP + READ)) _ (k i u) in
    let l = leb-true c.rights (STORE + KEEP + READ) p.0 in
    let m = and_le_l c.rights mask in
    let n : leb (bit_and c.rights mask) (STORE + KEEP + READ) ≡ true = le-leb (bit_and c.rights mask) (STORE + KEEP + READ) (omega arith) in
    and_both n p.1

-- ---- what is had stays had
module _ (kinds : List ℕ) (near : Split) (M : Machine) (x : Call) (h : sound M ≡ true) where
  such-after : (c : Capability) → capability_sound (issued M) c ≡ true → FarOnly kinds near M c → FarOnly kinds near (after M (step M x)) c
  such-after c s f n m =
      let k = f n m in
      let u = issued-upto M c.object (and_parts (issued M c.object) (is_rights c.rights) (sound-names (issued M) c s n)).0 in
      step-kinds (allowed kinds near c) M x (maker c.object) (serial c.object) u.upto k

  may-after : (b : Bool) (c : Capability) → capability_sound (issued M) c ≡ true → May kinds near M b c → May kinds near (after M (step M x)) b c
  may-after true c s k = k
  may-after false c s k = such-after c s k

  have-after : AllHave (λ q. May kinds near M (near q)) M → AllHave (λ q. May kinds near (after M (step M x)) (near q)) M
  have-after k q =
      let s = all_sound M h q in
      let l = k q in
      record {
        slots = λ i. may-after (near q) _ (s.slots i) (l.slots i);
        inside = λ i. record { entries = λ j. may-after (near q) _ ((s.inside i).entries j) ((l.inside i).entries j); inners = λ j. may-after (near q) _ ((s.inside i).inners j) ((l.inside i).inners j) };
      }

-- ---- what a package opens is on its own side
module _ (kinds : List ℕ) (near : Split) (directories : some (eqb DIRECTORY) kinds ≡ true) (extendeds : some (eqb EXTENDED) kinds ≡ true) (M : Machine) (kept : Kept kinds near M) where
  slot-may : (p a : ℕ) → May kinds near M (near p) (slot_of M p a)
  unfolding slot_of
  slot-may p a = (kept.have p).slots a

  -- A capability with a right from 8 on, or on a living object of a barred kind, names an object of its holder's side.
  own-side : (b : Bool) (c : Capability) → May kinds near M b c → is_null c ≡ false → (near (maker c.object) ≡ true → Such kinds near M c → ⊥) → near (maker c.object) ≡ b
  own-side true c k n u = k n
  own-side false c k n u = go (near (maker c.object)) refl
    where
      go : (d : Bool) → near (maker c.object) ≡ d → near (maker c.object) ≡ false
      go false e = e
      go true e = absurd (u e (k n e))

  strong : (c : Capability) (right : ℕ) → 8 ≤ right → has_right c right ≡ true → gone M c.object ≡ false → Such kinds near M c → ⊥
  strong c right l h g k = let u = right-within c right h in let v = (such-lives kinds near M c k g).0 in omega arith

  barred-kind : (p a right kind : ℕ) → Can M p a right kind → some (eqb kind) kinds ≡ true → Such kinds near M (slot_of M p a) → ⊥
  unfolding named opened is_kind
  barred-kind p a right kind c b k =
      let e : kind_of (living M (slot_of M p a).object) ≡ kind = eqb-true _ _ c.fits in
      let v : not (some (eqb kind) kinds) ≡ true = subst (λ (m : ℕ). not (some (eqb m) kinds) ≡ true) e (such-lives kinds near M (slot_of M p a) k c.lives).1 in
      let w : false ≡ true = sym (ap not b) ∙ v in
      never (sym w)

  opens-own : (p a right kind : ℕ) → Can M p a right kind → (8 ≤ right) ⊎ (some (eqb kind) kinds ≡ true) → near (named M p a).0 ≡ near p
  unfolding named
  opens-own p a right kind c w =
      own-side (near p) (slot_of M p a) (slot-may p a) c.filled (λ e k. ⊎_elim (λ l. strong (slot_of M p a) right l c.able c.lives k) (λ b. barred-kind p a right kind c b k) w)

  container-own : (p a right kind : ℕ) → Container kind → Can M p a right kind → near (named M p a).0 ≡ near p
  container-own p a right kind w c =
      opens-own p a right kind c
      (inr (⊎_elim (λ e. subst (λ (m : ℕ). some (eqb m) kinds ≡ true) (sym e) directories) (λ e. subst (λ (m : ℕ). some (eqb m) kinds ≡ true) (sym e) extendeds) w))

  -- an entry of a directory that p opens, with a right from 8 on
  listed-may : (p a b right : ℕ) → Can M p a right DIRECTORY → May kinds near M (near p) (listed M p a b).capability
  unfolding listed opened
  listed-may p a b right c =
      subst (λ (d : Bool). May kinds near M d (listed M p a b).capability) (container-own p a right DIRECTORY (inl refl) c)
      (entry_in (May kinds near M (near (named M p a).0)) (opened M p a) b (living-in (May kinds near M (near (named M p a).0)) M (named M p a) (kept.have (named M p a).0)))

  listed-own : (p a b right : ℕ) → Can M p a right DIRECTORY → has_right (listed M p a b).capability DELETE ≡ true → gone M (listed_object M p a b) ≡ false → near (listed_object M p a b).0 ≡ near p
  unfolding listed_object
  listed-own p a b right c r g =
      own-side (near p) (listed M p a b).capability (listed-may p a b right c) (not_null _ DELETE (omega arith) r) (λ e k. strong _ DELETE (omega arith) r g k)

  -- Every change of a package's call is to a package of its side.
  module _ (x : Call) where
    own-target : (y : Change) → Own M x y → near (target y) ≡ near x.caller
    unfolding copied
    own-target y (Deeds.restricting a mask c) = refl
    own-target y (Deeds.dropping a) = refl
    own-target y (Deeds.fetching a b c d) = refl
    own-target y (Deeds.getting b c d e) = refl
    own-target y (Deeds.receiving s d) = refl
    own-target y Deeds.issuing = refl
    own-target y (Deeds.placing body bare r) = refl
    own-target y (Deeds.entering a b s d) = opens-own x.caller a WRITE DIRECTORY d (inl (omega arith))
    own-target y (Deeds.adding a b c d) = opens-own x.caller a WRITE DIRECTORY d (inl (omega arith))
    own-target y (Deeds.removing a b d) = opens-own x.caller a REMOVE DIRECTORY d (inl (omega arith))
    own-target y (Deeds.ending a b d r g) = listed-own x.caller a b REMOVE d r g
    own-target y (Deeds.putting b c d e) = container-own x.caller b NONE EXTENDED (inr refl) e
    own-target y (Deeds.writing e c) = opens-own x.caller x.a WRITE SEGMENT c (inl (omega arith))
    own-target y (Deeds.copying e c m l) = opens-own x.caller x.c WRITE SEGMENT c (inl (omega arith))

    -- What it brings there is what that side may have.
    abbrev N : Machine
    N = after M (step M x)

    may_none : (b : Bool) → May kinds near N b null
    unfolding is_null
    may_none true = λ e. never e
    may_none false = λ e. never e

    may-restricted : (b : Bool) (c : Capability) (mask : ℕ) → May kinds near N b c → May kinds near N b (restricted c mask)
    may-restricted true c mask k = λ n. near-restricted near c mask (k (unrestricted c mask n))
    may-restricted false c mask k = λ n m. such-restricted kinds near N c mask (k (unrestricted c mask n) (near-unrestricted near c mask m))

    may-made : (b : Bool) → near x.caller ≡ b → (s : ℕ) → May kinds near N b (made M x.caller s)
    unfolding made
    may-made true e s = λ n. e
    may-made false e s = λ n m. never (sym m ∙ e)

    free : Free M x (λ q. May kinds near N (near q))
    free = record {
      none = λ q. may_none (near q);
      restricted = λ q. may-restricted (near q);
      made = λ s. may-made (near x.caller) refl s;
      have = have-after kinds near M x kept.sound-kept kept.have;
      same = λ a right kind w c d.
          (let e = container-own x.caller a right kind w c in
          (λ k. subst (λ (b : Bool). May kinds near N b d) (sym e) k, λ k. subst (λ (b : Bool). May kinds near N b d) e k));
    }

-- ---- hand-overs under the premises
module _ (kinds : List ℕ) (near : Split) (M : Machine) (x : Call) (value : ℕ) (ys : List Change) (e : x.number ≡ 3) (d : step M x ≡ done value ys) where
  done-hands : hands_over M x ≡ true
  unfolding hands_over is_done
  done-hands = and_both (eq-eqb x.number 3 e) (ap (λ (r : Result). is_done (answer_of r)) d)

  hand-back : not_far_to_near near M x ≡ true → near x.a ≡ false → near x.c ≡ false
  unfolding not_far_to_near
  hand-back h a = go (near x.c) refl
    where
      go : (b : Bool) → near x.c ≡ b → near x.c ≡ false
      go false c = c
      go true c = let k : not true || not (not false && true) ≡ true = rw (done-hands, a, c) at h in never (sym k)

  hand-such : sound M ≡ true → gives_such kinds near M x ≡ true → near x.a ≡ true → near x.c ≡ false → FarOnly kinds near M (slot_of M x.a x.b)
  unfolding gives_such is_such
  hand-such s h a c n m =
      let k : not (names_near near (slot_of M x.a x.b)) || (reading_only M (slot_of M x.a x.b) && not (lives_as kinds M (slot_of M x.a x.b))) ≡ true = rw (done-hands, a, c) at h in
      let p = and_parts (reading_only M (slot_of M x.a x.b)) _ (on-near near (slot_of M x.a x.b) _ k n m) in
      such-of kinds near M s (slot_of M x.a x.b) p.0 p.1

-- ---- what a call leaves alone
untouched : (near : Split) (M : Machine) (ys : List Change) → Each (λ y. near (target y) ≡ false) ys → (q : ℕ) → near q ≡ true → package_of (apply_all M ys) q ≡ package_of M q
unfolding apply_all package_of apply
untouched near M [] f q n = refl
untouched near M (y ∷ ys) f q n =
    untouched near (apply M y) ys f.1 q n ∙ get_or-set_other M (target y) q _ nobody (λ e. never (sym n ∙ ap near e ∙ f.0))

far-side : (near : Split) (x : Call) → is_near near x ≡ false → side_of x < PACKAGES → near (side_of x) ≡ false
unfolding is_near
far-side near x h l = rw (lt-ltb (side_of x) PACKAGES l) at h

side-hand : (x : Call) → x.number ≡ 3 → side_of x ≡ x.a
unfolding side_of
side-hand x e = ap (λ (b : Bool). pick b x.a x.caller) (eq-eqb x.number 3 e)

side-own : (x : Call) → (x.number ≡ 3 → ⊥) → side_of x ≡ x.caller
unfolding side_of
side-own x e = ap (λ (b : Bool). pick b x.a x.caller) (ne_eqb x.number 3 e)

-- ---- one call
module _ (kinds : List ℕ) (near : Split) (directories : some (eqb DIRECTORY) kinds ≡ true) (extendeds : some (eqb EXTENDED) kinds ≡ true)
    (M : Machine) (kept : Kept kinds near M) (x : Call) (back : not_far_to_near near M x ≡ true) (such : gives_such kinds near M x ≡ true) where
  abbrev K : ℕ → Capability → Type 0
  K q = May kinds near (after M (step M x)) (near q)

  had : AllHave K M
  had = have-after kinds near M x kept.sound-kept kept.have

  hand-may : (value : ℕ) (ys : List Change) → x.number ≡ 3 → step M x ≡ done value ys → K x.c (slot_of M x.a x.b)
  unfolding slot_of
  hand-may value ys e d = go (near x.a) (near x.c) refl refl ((had x.a).slots x.b)
    where
      N : Machine
      N = after M (step M x)

      go : (a c : Bool) → near x.a ≡ a → near x.c ≡ c → K x.a (slot_of M x.a x.b) → K x.c (slot_of M x.a x.b)
      go true true a c k = subst (λ (b : Bool). May kinds near N b (slot_of M x.a x.b)) (a ∙ sym c) k
      go true false a c k =
          subst (λ (b : Bool). May kinds near N b (slot_of M x.a x.b)) (sym c)
          (such-after kinds near M x kept.sound-kept (slot_of M x.a x.b) ((all_sound M kept.sound-kept x.a).slots x.b) (hand-such kinds near M x value ys e d kept.sound-kept such a c))
      go false c a f k = subst (λ (b : Bool). May kinds near N b (slot_of M x.a x.b)) (a ∙ sym (hand-back kinds near M x value ys e d back a)) k

  have-does : (r : Result) → step M x ≡ r → Doing M x r → AllHave K (after M r)
  have-does r d (stopped why) = had
  have-does r d (handing e a c) = have-all K M _ (hand-may 0 _ e d, tt) had
  have-does r d (owning e l value ys o) = have-all K M ys (each_map (Own M x) _ (own-brings M x K (free kinds near directories extendeds M kept x)) ys o) had

  -- The premises hold again.
  pub step_kept : SixteenBit x → Kept kinds near (after M (step M x))
  step_kept n = record { sound-kept = step_keeps M x n kept.sound-kept; have = have-does (step M x) refl (step-does M x) }

  far-does : is_near near x ≡ false → (r : Result) → step M x ≡ r → Doing M x r → (q : ℕ) → near q ≡ true → package_of (after M r) q ≡ package_of M q
  far-does f r d (stopped why) q n = refl
  far-does f r d (handing e a c) q n =
      let u = subst (λ (p : ℕ). p < PACKAGES → near p ≡ false) (side-hand x e) (far-side near x f) a in
      untouched near M _ (hand-back kinds near M x _ _ e d back u, tt) q n
  far-does f r d (owning e l value ys o) q n =
      let u = subst (λ (p : ℕ). p < PACKAGES → near p ≡ false) (side-own x e) (far-side near x f) l in
      untouched near M ys (each_map (Own M x) _ (λ y w. own-target kinds near directories extendeds M kept x y w ∙ u) ys o) q n

  -- A far call changes no near package.
  pub far-untouched : is_near near x ≡ false → (q : ℕ) → near q ≡ true → package_of (after M (step M x)) q ≡ package_of M q
  far-untouched f = far-does f (step M x) refl (step-does M x)
