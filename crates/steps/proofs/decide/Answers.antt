-- `steps::decide` meets its contract: a refusal, an opening, 11, or the code's own lines by the mode before the record (K5).
use Rattle.std.proofs.Common.{refl, ap, arith}
use Rattle.codes.specs.Asking.{meant}
use Rattle.steps.proofs.Asked.{refused-left, bare-held, opens-left, retires-left, one-held, one_left, kinds-held, kinds-left}
use Rattle.steps.proofs.decide.Goals as goal

pub retire-requires : goal.retire-requires
retire-requires c =
    let h = bare-held _ _ _ _ _ _ _ _ c.requires.0 _ _ c.requires.1.asks c.in-Bare.is in
    (h.size, h.inside, c.requires.0.sound.most)

pub returns-then-code-eq11 : goal.returns-then-code-eq11
returns-then-code-eq11 c = record {
  each = λ r q.
      retires-left _ _ _ _ _ _ _ _ c.requires.0 _ r q c.in-Bare.is c.if-code-eq11.true _ _ c.retire.ensures;
  rest = refl;
}

pub open-requires : goal.open-requires
open-requires c =
    let h = bare-held _ _ _ _ _ _ _ _ c.requires.0 _ _ c.requires.1.asks c.in-Bare.is in
    (h.size, h.inside)

pub overflow_cast-i : goal.overflow_cast-i
overflow_cast-i c = omega (arith, (one-held _ _ _ _ _ _ _ _ c.requires.0 _ _ c.requires.1.asks _ c.in-One.is).0.inside)

pub mode_of-on-requires : goal.mode_of-on-requires
mode_of-on-requires c =
    (one-held _ _ _ _ _ _ _ _ c.requires.0 _ _ c.requires.1.asks _ c.in-One.is).0.inside

pub amend_one-requires : goal.amend_one-requires
amend_one-requires c =
    one-held _ _ _ _ _ _ _ _ c.requires.0 _ _ c.requires.1.asks _ c.in-One.is

pub overflow_cast-i-in-Only : goal.overflow_cast-i-in-Only
overflow_cast-i-in-Only c = omega (arith, (kinds-held _ _ _ _ _ _ _ _ c.requires.0 _ _ c.requires.1.asks _ (ap meant c.in-Only.is)).0.inside)

pub mode_of-on-requires-in-Only : goal.mode_of-on-requires-in-Only
mode_of-on-requires-in-Only c =
    (kinds-held _ _ _ _ _ _ _ _ c.requires.0 _ _ c.requires.1.asks _ (ap meant c.in-Only.is)).0.inside

pub amend_only-requires : goal.amend_only-requires
amend_only-requires c =
    kinds-held _ _ _ _ _ _ _ _ c.requires.0 _ _ c.requires.1.asks _ (ap meant c.in-Only.is)

pub overflow_cast-i-in-Four : goal.overflow_cast-i-in-Four
overflow_cast-i-in-Four c = omega (arith, (kinds-held _ _ _ _ _ _ _ _ c.requires.0 _ _ c.requires.1.asks _ (ap meant c.in-Four.is)).0.inside)

pub mode_of-on-requires-in-Four : goal.mode_of-on-requires-in-Four
mode_of-on-requires-in-Four c =
    (kinds-held _ _ _ _ _ _ _ _ c.requires.0 _ _ c.requires.1.asks _ (ap meant c.in-Four.is)).0.inside

pub amend_kinds-requires : goal.amend_kinds-requires
amend_kinds-requires c =
    kinds-held _ _ _ _ _ _ _ _ c.requires.0 _ _ c.requires.1.asks _ (ap meant c.in-Four.is)

pub returns-in-Refused : goal.returns-in-Refused
returns-in-Refused c = record { each = λ r q. refused-left _ _ _ _ _ _ _ _ c.requires.0 _ r q _ c.in-Refused.is; rest = refl }

pub returns-else-code-eq11 : goal.returns-else-code-eq11
returns-else-code-eq11 c = record {
  each = λ r q.
      opens-left _ _ _ _ _ _ _ _ c.requires.0 _ r q c.in-Bare.is c.if-code-eq11.false _ _ _ _ c.open.ensures.0 c.open.ensures.1;
  rest = refl;
}

pub returns-in-One : goal.returns-in-One
returns-in-One c = record {
  each = λ r q.
      one_left _ _ _ _ _ _ _ _ c.requires.0 _ r q _ c.in-One.is _ c.mode_of-on.ensures _ _ c.amend_one.ensures;
  rest = refl;
}

pub returns-in-Only : goal.returns-in-Only
returns-in-Only c = record {
  each = λ r q.
      kinds-left _ _ _ _ _ _ _ _ c.requires.0 _ r q _ (ap meant c.in-Only.is) _ c.mode_of-on-in-Only.ensures _ _ c.amend_only.ensures;
  rest = refl;
}

pub returns-in-Four : goal.returns-in-Four
returns-in-Four c = record {
  each = λ r q.
      kinds-left _ _ _ _ _ _ _ _ c.requires.0 _ r q _ (ap meant c.in-Four.is) _ c.mode_of-on-in-Four.ensures _ _ c.amend_kinds.ensures;
  rest = refl;
}
