-- The parts of a finding's line.
use mathlib.Core.List.{◌++◌}
use mathlib.Core.Path.{◌≡◌, refl, sym}
use Prim.Native.Nat.{ℕ, zero, suc, ◌≤◌, ◌<◌}
use native.Mathlib.Omega.{arith}
use borrow.Author.Tests.{lt-ltb, le-ltb}
use lib.Dec.{ltb}
use Rattle.sums.proofs.Choices.{pick_yes, pick_no}
use Rattle.text.specs.Numbers.{space, newline, followed}
use Rattle.text.specs.Words.{refused_at}
use Rattle.statement.specs.declared.Finding.{Finding}
use Rattle.statements.specs.Printed.{colon, account_word, is_wanted, none_wanted, wanted_text, finding_text}

pub none-wanted : (n : ℕ) → n ≡ 0 → none_wanted ≡ wanted_text n
unfolding wanted_text
none-wanted zero e = refl
none-wanted (suc n) e = absurd (omega arith)

pub one_wanted : (n : ℕ) → (n ≡ 0 → ⊥) → account_word ++ (followed n space ++ is_wanted) ≡ wanted_text n
unfolding wanted_text
one_wanted zero h = absurd (h refl)
one_wanted (suc n) h = refl

module _ (f : Finding) where
  pub alone : f.refusal < 24 → followed f.refusal newline ≡ finding_text f
  unfolding finding_text
  alone h = sym (pick_yes (ltb f.refusal 24) _ _ (lt-ltb f.refusal 24 h))

  pub placed : 24 ≤ f.refusal → refused_at f.refusal f.index colon ++ wanted_text f.wanted ≡ finding_text f
  unfolding finding_text
  placed h = sym (pick_no (ltb f.refusal 24) _ _ (le-ltb f.refusal 24 h))
