-- `words::unhex::hex_at` meets its contract. The invariant: n bytes stand in the room, and what is left to read is what stands at i.
use Rattle.std.proofs.Common.{◌-◌, sym, refl, ◌∙◌, arith, length-set}
use Rattle.words.proofs.Unhexing.{hex-short, hex-blank, first-stops, second-stops, byte-read, hex-full, hex-start, hex-on, hex-done}
use Rattle.words.proofs.unhex.hex_at.Goals as goal

pub loop-n-init : goal.loop-n-init
loop-n-init c = (hex-start _ _, omega arith, refl)

pub returns-then-line-i : goal.returns-then-line-i
returns-then-line-i c = let l = c in hex-done l.loop-n.invariant.0 (hex-short _ l.loop-n.i _ (omega arith)) (omega arith) _ refl refl

pub returns-then-line-i-lt2 : goal.returns-then-line-i-lt2
returns-then-line-i-lt2 c = let l = c in hex-done l.loop-n.invariant.0 (hex-short _ l.loop-n.i _ (omega arith)) (omega arith) _ refl refl

pub loop-n-preserved-then-is_blank : goal.loop-n-preserved-then-is_blank
loop-n-preserved-then-is_blank c =
    let l = c in
    (hex-on l.loop-n.invariant.0 (hex-blank _ l.loop-n.i (omega arith) (70 - l.loop-n.n) (λ e. omega arith) (sym c.is_blank.ensures ∙ c.if-is_blank.true)), omega arith, omega arith)

pub returns : goal.returns
returns c = let l = c in hex-done l.loop-n.invariant.0 (hex-full l.loop-n.n _ _ (omega arith)) (omega arith) _ refl refl

pub returns-in_default : goal.returns-in_default
returns-in_default c =
    let l = c.loop-n in
    hex-done l.invariant.0 (first-stops _ l.i (omega arith) (sym c.is_blank.ensures ∙ c.if-is_blank.false) _ c.in_default.ensures) (omega arith) _ refl refl

pub returns-in_default-hex_value : goal.returns-in_default-hex_value
returns-in_default-hex_value c =
    let l = c.loop-n in
    hex-done l.invariant.0 (second-stops _ l.i (omega arith) (sym c.is_blank.ensures ∙ c.if-is_blank.false) _ c.in_default-hex_value.ensures) (omega arith) _ refl refl

pub loop-n-preserved : goal.loop-n-preserved
loop-n-preserved c =
    let l = c.loop-n in
    let high = c.in-Some.ensures in
    let low = c.in-Some-hex_value.ensures in (
      byte-read _ l.i (omega arith) (sym c.is_blank.ensures ∙ c.if-is_blank.false) _ _ high.0 low.0 l.invariant.0 (omega arith) (omega arith) (high.1, low.1),
      omega arith,
      simp length-set (omega (arith, l.invariant.2)),
    )
