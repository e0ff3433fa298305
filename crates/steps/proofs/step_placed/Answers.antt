-- `steps::step_placed` meets its contract: what is decided on the words, and the collateral, K3's needs and K2's look after it.
use Rattle.std.proofs.Common.{◌≡◌, ℕ, Bool, true, false, not, ◌&&◌, ◌||◌, eqb, leb, ◌⊎◌, sym, refl, ap, ◌∙◌, subst, inl, inr, ⊎_elim, eqb-true}
use borrow.Author.Tests.{eqb-false, not-true}
use Rattle.sums.proofs.Choices.{and_split}
use Rattle.rows.specs.Inner.{Slot}
use Rattle.dayfile.specs.declared.Record.{Record}
use Rattle.steps.proofs.LookedAt.{going-ready, still-step, refused-step}
use Rattle.steps.proofs.Standing.{moved-follows, moved-steps}
use Rattle.steps.proofs.step_placed.Goals as goal

-- it moves none, or it is refused
either : (still z : Bool) → (not still && z) ≡ false → (still ≡ true) ⊎ (z ≡ false)
either true z e = inl refl
either false z e = inr e

-- a code that moves figures
moving : (r : Record) (code refusal : ℕ) → (not (leb code 5 || eqb code 11) && eqb refusal 0) ≡ true → r.code ≡ code → (leb r.code 5 || eqb r.code 11) ≡ false
moving r code refusal e q = ap (λ k. leb k 5 || eqb k 11) q ∙ not-true _ (and_split (not (leb code 5 || eqb code 11)) (eqb refusal 0) e).0

passed : (still : Bool) (refusal : ℕ) → (not still && eqb refusal 0) ≡ true → refusal ≡ 0
passed still refusal e = eqb-true refusal 0 (and_split (not still) (eqb refusal 0) e).1

pub carry-gone-requires : goal.carry-gone-requires
carry-gone-requires c = let s = c.requires in (going-ready _ _ _ s.0 s.1.of, s.1)

pub follow-requires : goal.follow-requires
follow-requires c =
    let s = c.requires in
    let r = s.1.of in
    let q = s.1.asks in
    let d = c.carry-gone in
    moved-follows _ _ _ s.0 r _ _ (d.ensures.each r q) d.ensures.rest (passed _ _ c.if-still-gone.true) (moving r _ _ c.if-still-gone.true q.coded) _ _ _ q.placed (subst (λ k. Slot k c.slot.result) (sym q.placed) c.slot.ensures) c.word_at-m0.ensures

pub returns-then-still-gone : goal.returns-then-still-gone
returns-then-still-gone c = λ r q.
    let d = c.carry-gone in
    moved-steps _ _ _ c.requires.0 r _ _ (d.ensures.each r q) d.ensures.rest (passed _ _ c.if-still-gone.true) (moving r _ _ c.if-still-gone.true q.coded) _ _ _ q.placed (subst (λ k. Slot k c.slot.result) (sym q.placed) c.slot.ensures) c.word_at-m0.ensures _
    c.follow.ensures

pub returns-else-still-gone : goal.returns-else-still-gone
returns-else-still-gone c = λ r q.
    let s = c.requires.0 in
    let d = c.carry-gone.ensures in
    rw d.rest
    (⊎_elim
    (λ h. still-step _ _ _ s r _ _ _ _ (d.each r q) (ap (λ k. leb k 5 || eqb k 11) q.coded ∙ h))
    (λ h. refused-step _ _ _ s r _ _ _ _ (d.each r q) (eqb-false _ _ h))
    (either _ _ c.if-still-gone.false))
