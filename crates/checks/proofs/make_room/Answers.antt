use Rattle.std.proofs.Common.{ℕ, ◌+◌, ◌-◌, refl, sym, ◌∙◌}
use Rattle.things.specs.declared.Capability.{Capability}
use Rattle.things.specs.Rights.{object, capability}
use Rattle.rules.specs.Calls.{made}
use Rattle.access.specs.Shown.{shown, lies_in}
use Rattle.checks.proofs.Deciding.{handed_on}
use Rattle.checks.proofs.Making.{make-refused, make-placeless, make-spent, make-ready, has-place, no_place}
use Rattle.checks.proofs.make_room.Goals as goal

-- what stands in for the capability to be made: addable looks at rights alone
abbrev like : ℕ → Capability
like permits = capability (object 0 0) (252 + (3 - permits))

pub returns-in_err-position : goal.returns-in_err-position
unfolding made
returns-in_err-position c =
    rw (handed_on _ _ c.from_residual.ensures.1)
    (make-refused (shown c.args.t.now) c.args.p.number (lies_in c.args.d.now) c.args.name.0 (like c.args.permits.bits)
    (made (shown c.args.t.now) c.args.p.number c.args.permits.bits) refl _ (rw c.made-like.ensures at c.in_err-position.ensures))

pub returns-in_default : goal.returns-in_default
unfolding made
returns-in_default c =
    make-placeless (shown c.args.t.now) c.args.p.number (lies_in c.args.d.now) c.args.name.0 (like c.args.permits.bits)
    (made (shown c.args.t.now) c.args.p.number c.args.permits.bits) refl
    (rw c.made-like.ensures at c.in_ok-position.ensures.0)
    (no_place c.args.t.now.numbers.now c.args.t.now.lent c.args.p.number c.args.p.in_range c.in_default.ensures)

pub returns-then-last : goal.returns-then-last
unfolding made
returns-then-last c =
    make-spent (shown c.args.t.now) c.args.p.number (lies_in c.args.d.now) c.args.name.0 (like c.args.permits.bits)
    (made (shown c.args.t.now) c.args.p.number c.args.permits.bits) refl (rw c.made-like.ensures at c.in_ok-position.ensures.0)
    (has-place c.args.t.now.numbers.now c.args.t.now.lent c.args.p.number c.args.p.in_range _ c.in-Some.ensures.1 c.in-Some.place.in_range)
    (sym c.last-last.ensures ∙ c.if-last.true)

pub returns : goal.returns
unfolding made Rattle.rules.specs.Calls.next_serial
returns c = (
  make-ready (shown c.args.t.now) c.args.p.number (lies_in c.args.d.now) c.args.name.0 (like c.args.permits.bits)
      (made (shown c.args.t.now) c.args.p.number c.args.permits.bits) refl (rw c.made-like.ensures at c.in_ok-position.ensures.0)
      (has-place c.args.t.now.numbers.now c.args.t.now.lent c.args.p.number c.args.p.in_range _ c.in-Some.ensures.1 c.in-Some.place.in_range)
      (λ e. c.if-last.false (c.last-last.ensures ∙ e)),
  (c.in_ok-position.ensures.1, c.in-Some.ensures.0, c.in-Some.ensures.1, rw c.last-last.ensures),
)
