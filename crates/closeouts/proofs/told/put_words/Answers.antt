use Rattle.std.proofs.Common.{ℕ, zero, suc, ◌≡◌, refl, arith}
use Rattle.closeouts.specs.LossLines.{too_many, fault_words}
use Rattle.closeouts.proofs.told.put_words.Goals as goal

others : (fault : ℕ) → (fault ≡ 1 → ⊥) → (fault ≡ 2 → ⊥) → (fault ≡ 3 → ⊥) → (fault ≡ 4 → ⊥) → (fault ≡ 5 → ⊥) → fault_words fault ≡ too_many
others zero a b d e f = refl
others (suc zero) a b d e f = absurd (a refl)
others (suc (suc zero)) a b d e f = absurd (b refl)
others (suc (suc (suc zero))) a b d e f = absurd (d refl)
others (suc (suc (suc (suc zero)))) a b d e f = absurd (e refl)
others (suc (suc (suc (suc (suc zero))))) a b d e f = absurd (f refl)
others (suc (suc (suc (suc (suc (suc fault)))))) a b d e f = refl

pub returns-in-1 : goal.returns-in-1
returns-in-1 c = rw c.in-1.is c.put_text.ensures

pub returns-in-2 : goal.returns-in-2
returns-in-2 c = rw c.in-2.is c.put_text-in-2.ensures

pub returns-in-3 : goal.returns-in-3
returns-in-3 c = rw c.in-3.is c.put_text-in-3.ensures

pub returns-in-4 : goal.returns-in-4
returns-in-4 c = rw c.in-4.is c.put_text-in-4.ensures

pub returns-in-5 : goal.returns-in-5
returns-in-5 c = rw c.in-5.is c.put_text-in-5.ensures

pub returns-in_default : goal.returns-in_default
returns-in_default c = rw (others c.args.fault (omega (arith, c.in_default)) (omega (arith, c.in_default)) (omega (arith, c.in_default)) (omega (arith, c.in_default)) (omega (arith, c.in_default))) c.put_text-in_default.ensures
